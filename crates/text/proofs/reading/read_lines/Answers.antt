-- Each line is taken, or refused where it may not stand.
use Rattle.std.proofs.Common.{arith}
use Rattle.text.specs.Held.{read_in}
use Rattle.text.proofs.ReadLines.{
  reading-long,
  reading-start,
  reading-done,
  reading-none,
  stands-cut,
  stands-refused,
  stands-taken,
  joined,
  not-joined,
}
use Rattle.text.proofs.reading.read_lines.Goals.{then-s-end-via-then-s-end, then-s-end-via-else-s-end+then-not-join}
use Rattle.text.proofs.reading.read_lines.Goals as goal

pub returns-then-s-gt-TEXT_BYTES-clause-read : goal.returns-then-s-gt-TEXT_BYTES-clause-read
unfolding read_in
returns-then-s-gt-TEXT_BYTES-clause-read g c = reading-long _ _ _ c.if-s-gt-TEXT_BYTES.true

pub loop-at-init : goal.loop-at-init
loop-at-init g c = (rw c.requires.nothing (reading-start _ _ _ c.if-s-gt-TEXT_BYTES.false), c.requires.kept)

pub returns-in_default-clause-read : goal.returns-in_default-clause-read
unfolding read_in
returns-in_default-clause-read g c = reading-none c.loop-at.invariant.0 c.loop-at-test.true (c.in_default.ensures _)

pub returns-then-s-end-clause-read : goal.returns-then-s-end-clause-read
unfolding read_in
returns-then-s-end-clause-read g c =
    let r = c.loop-at.invariant in
    let t = c.in-Some.ensures in
    elim c.then-s-end.branch [
      | then-s-end-via-then-s-end w ↦ stands-cut r.0 c.loop-at-test.true {adds = g.L.Line.adds} {least = g.L.Line.least} t w.if-s-end.true
      | then-s-end-via-else-s-end+then-not-join w ↦
          stands-refused r.0 c.loop-at-test.true {adds = g.L.Line.adds} {least = g.L.Line.least} t
          (not-joined _ _ _ (w.join.ensures _ _ r.1 t.long (omega (arith, r.0.short))) w.if-not-join.true)
    ]

pub loop-at-preserved : goal.loop-at-preserved
loop-at-preserved g c =
    let r = c.loop-at.invariant in
    let t = c.in-Some.ensures in
    let j = joined _ _ _ (c.join.ensures _ _ r.1 t.long (omega (arith, r.0.short))) c.if-not-join.false in (
      stands-taken r.0 c.loop-at-test.true {adds = g.L.Line.adds} {least = g.L.Line.least} t c.if-s-end.false
          (g.L.Line.held c.join.new.into c.join.new.beside) j.0,
      j.1,
    )

pub returns-clause-read : goal.returns-clause-read
unfolding read_in
returns-clause-read g c = reading-done c.loop-at.invariant.0 c.loop-at-test.false
