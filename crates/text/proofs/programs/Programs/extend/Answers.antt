-- An instruction joins the last program.
use Rattle.std.proofs.Common.{◌≡◌, ◌+◌, ◌-◌, refl, arith}
use Rattle.text.proofs.ProgramsReading.{do-early, do-joins}
use Rattle.text.proofs.programs.Programs.extend.Goals.{
  then-self-eq0-via-then-self-eq0,
  then-self-eq0-via-else-self-eq0+then-self-gt-PROGRAMS,
}
use Rattle.text.proofs.programs.Programs.extend.Goals as goal

pub returns-then-self-eq0 : goal.returns-then-self-eq0
returns-then-self-eq0 c = λ h.
    elim c.then-self-eq0.branch [
      | then-self-eq0-via-then-self-eq0 w ↦ do-early _ h _ w.if-self-eq0.true
      | then-self-eq0-via-else-self-eq0+then-self-gt-PROGRAMS w ↦ absurd (omega (arith, h.few))
    ]

pub returns : goal.returns
returns c = λ h.
    let n = c.args.self.now.n in
    let e : n ≡ n - 1 + 1 = omega arith in
    do-joins _ h (n - 1) e _ _ c.push.ensures.room _ c.push.ensures.program _ refl refl
