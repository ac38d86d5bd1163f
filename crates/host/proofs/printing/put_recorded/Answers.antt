-- Where there is room for all three pieces, each is written behind those before it.
use Rattle.std.proofs.Common.{arith}
use Rattle.writing.specs.Verdict.{verdict_text}
use Rattle.host.proofs.PrintedTexts.{three-short, one-put, room-one, two-put, room-two, room-two-is, three-put, room-three, all-put}
use Rattle.host.proofs.printing.put_recorded.Goals as goal

-- ── there is no room ──
pub returns-in_err-room : goal.returns-in_err-room
returns-in_err-room c =
    let a = c.args in
    rw c.from_residual.ensures (three-short (verdict_text a.verdict a.line) a.trace.now a.report.now a.out.now (omega (arith, c.verdict_width.ensures.value, c.in_err-room.ensures)))

pub returns-in_err-checked_sub : goal.returns-in_err-checked_sub
returns-in_err-checked_sub c =
    let a = c.args in
    rw c.from_residual-in_err-checked_sub.ensures (three-short (verdict_text a.verdict a.line) a.trace.now a.report.now a.out.now (omega (arith, c.verdict_width.ensures.value, c.in_ok-room.ensures, c.in_err-checked_sub.ensures)))

pub returns-in_err-checked_sub-2 : goal.returns-in_err-checked_sub-2
returns-in_err-checked_sub-2 c =
    let a = c.args in
    rw c.from_residual-in_err-checked_sub-2.ensures (three-short (verdict_text a.verdict a.line) a.trace.now a.report.now a.out.now (omega (arith, c.verdict_width.ensures.value, c.in_ok-room.ensures, c.in_ok-checked_sub.ensures, c.in_err-checked_sub-2.ensures)))

-- ── there is room ──
pub returns-in_err-at : goal.returns-in_err-at
returns-in_err-at c =
    let a = c.args in
    absurd
    (one-put (verdict_text a.verdict a.line) a.trace.now a.report.now a.out.now
    (omega (arith, c.verdict_width.ensures.value, c.in_ok-room.ensures, c.in_ok-checked_sub.ensures, c.in_ok-checked_sub-2.ensures))
    _ _ c.put_verdict.ensures c.in_err-at.was)

pub slice_bounds-put_bytes-count : goal.slice_bounds-put_bytes-count
slice_bounds-put_bytes-count c =
    let a = c.args in
    room-one (verdict_text a.verdict a.line) a.trace.now a.report.now a.out.now
    (omega (arith, c.verdict_width.ensures.value, c.in_ok-room.ensures, c.in_ok-checked_sub.ensures, c.in_ok-checked_sub-2.ensures))
    _ _ c.put_verdict.ensures _ c.in_ok-at.was

pub slice_bounds-put_bytes-start : goal.slice_bounds-put_bytes-start
slice_bounds-put_bytes-start c = slice_bounds-put_bytes-count c

pub returns-in_err-at-2 : goal.returns-in_err-at-2
returns-in_err-at-2 c =
    let a = c.args in
    absurd
    (two-put (verdict_text a.verdict a.line) a.trace.now a.report.now a.out.now
    (omega (arith, c.verdict_width.ensures.value, c.in_ok-room.ensures, c.in_ok-checked_sub.ensures, c.in_ok-checked_sub-2.ensures))
    _ _ c.put_verdict.ensures _ c.in_ok-at.was _ _ c.put_bytes.ensures c.in_err-at-2.was)

pub overflow_add-at : goal.overflow_add-at
overflow_add-at c =
    let a = c.args in
    omega (
      arith,
      room-two-is (verdict_text a.verdict a.line) a.trace.now a.report.now a.out.now
          (omega (arith, c.verdict_width.ensures.value, c.in_ok-room.ensures, c.in_ok-checked_sub.ensures, c.in_ok-checked_sub-2.ensures))
          _ _ c.put_verdict.ensures _ c.in_ok-at.was _ _ c.put_bytes.ensures _ c.in_ok-at-2.was,
    )

pub slice_bounds-put_bytes-count-2 : goal.slice_bounds-put_bytes-count-2
slice_bounds-put_bytes-count-2 c =
    let a = c.args in
    room-two (verdict_text a.verdict a.line) a.trace.now a.report.now a.out.now
    (omega (arith, c.verdict_width.ensures.value, c.in_ok-room.ensures, c.in_ok-checked_sub.ensures, c.in_ok-checked_sub-2.ensures))
    _ _ c.put_verdict.ensures _ c.in_ok-at.was _ _ c.put_bytes.ensures _ c.in_ok-at-2.was

pub slice_bounds-put_bytes-start-2 : goal.slice_bounds-put_bytes-start-2
slice_bounds-put_bytes-start-2 c = slice_bounds-put_bytes-count-2 c

pub returns-in_err-at-3 : goal.returns-in_err-at-3
returns-in_err-at-3 c =
    let a = c.args in
    absurd
    (three-put (verdict_text a.verdict a.line) a.trace.now a.report.now a.out.now
    (omega (arith, c.verdict_width.ensures.value, c.in_ok-room.ensures, c.in_ok-checked_sub.ensures, c.in_ok-checked_sub-2.ensures))
    _ _ c.put_verdict.ensures _ c.in_ok-at.was _ _ c.put_bytes.ensures _ c.in_ok-at-2.was _ _ c.put_bytes-2.ensures c.in_err-at-3.was)

pub overflow_add-at-2 : goal.overflow_add-at-2
overflow_add-at-2 c =
    let a = c.args in
    omega (
      arith,
      room-three (verdict_text a.verdict a.line) a.trace.now a.report.now a.out.now
          (omega (arith, c.verdict_width.ensures.value, c.in_ok-room.ensures, c.in_ok-checked_sub.ensures, c.in_ok-checked_sub-2.ensures))
          _ _ c.put_verdict.ensures _ c.in_ok-at.was _ _ c.put_bytes.ensures _ c.in_ok-at-2.was _ _ c.put_bytes-2.ensures _ c.in_ok-at-3.was,
    )

pub returns : goal.returns
returns c =
    let a = c.args in
    all-put (verdict_text a.verdict a.line) a.trace.now a.report.now a.out.now
    (omega (arith, c.verdict_width.ensures.value, c.in_ok-room.ensures, c.in_ok-checked_sub.ensures, c.in_ok-checked_sub-2.ensures))
    _ _ c.put_verdict.ensures _ c.in_ok-at.was _ _ c.put_bytes.ensures _ c.in_ok-at-2.was _ _ c.put_bytes-2.ensures _ c.in_ok-at-3.was
