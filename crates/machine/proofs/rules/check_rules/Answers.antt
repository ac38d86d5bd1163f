-- Each line keeps the scan's invariants, and the line where it stops is the first that breaks a rule.
use Rattle.std.proofs.Common.{◌≡◌, ℕ, List, min, sym, ◌∙◌, arith}
use mathlib.Core.Option.{Option}
use Rattle.basics.specs.Firsts.{firsts}
use Rattle.text.specs.declared.programs.Program.{Program}
use Rattle.text.specs.Held.{program_at}
use Rattle.machine.specs.Rules.{row2}
use Rattle.machine.proofs.Scan.{
  program-in,
  program-kept,
  program-broken,
  programs-end,
  instruction-in,
  instruction-kept,
  instruction-broken,
}
use Rattle.machine.proofs.rules.check_rules.Goals as goal

pub loop-j-init : goal.loop-j-init
loop-j-init c = (
  program-kept c.table.invariant.0 c.table-test.true
      (program-in _ _ _ _ c.table-test.true (sym c.head_keeps.ensures ∙ c.if-not-head_keeps.false)),
  c.table.invariant.1,
)

pub loop-j-preserved : goal.loop-j-preserved
loop-j-preserved c =
    let line = instruction-in _ _ _ _ _ c.table-test.true c.loop-j-test.true (sym c.body_keeps.ensures ∙ c.if-not-body_keeps.false) in
    (instruction-kept c.loop-j.invariant.0 line.1 line.0, c.loop-j.invariant.1)

-- the loop goes over each program of the table
of-all : (t : List Program) (l n : ℕ) (line : Option ℕ) → l ≡ min n 16 → line ≡ row2 (firsts (program_at t) l) →
    line ≡ row2 (firsts (program_at t) (min n 16))
of-all t l n line e h = rw (← e) h

pub returns-after-table : goal.returns-after-table
returns-after-table c =
    rw c.table.invariant.1 (of-all _ _ _ _ (omega arith) (programs-end c.table.invariant.0 c.table-test.false))

pub returns-then-not-head_keeps : goal.returns-then-not-head_keeps
returns-then-not-head_keeps c =
    of-all _ _ _ _ (omega arith)
    (program-broken c.table.invariant.0 c.table-test.true
    (program-in _ _ _ _ c.table-test.true (sym c.head_keeps.ensures ∙ c.if-not-head_keeps.true)))

pub returns-then-not-body_keeps : goal.returns-then-not-body_keeps
returns-then-not-body_keeps c =
    let line = instruction-in _ _ _ _ _ c.table-test.true c.loop-j-test.true (sym c.body_keeps.ensures ∙ c.if-not-body_keeps.true) in
    of-all _ _ _ _ (omega arith) (instruction-broken c.loop-j.invariant.0 line.1 line.0)
