-- What the operations of a run answer, what their log lines answer, and what a log makes of a content.
use Rattle.std.specs.Prelude.{cond, ◌&&◌, List, [], ◌∷◌, ℕ, eqb}
use Rattle.std.proofs.Math.Option.{Option, none, some}
use Rattle.text.specs.declared.report.Entry.{Entry}
use Rattle.model.specs.Machine.{Next, op, stop, Machine}
use Rattle.model.specs.PlainRun.{Item, event, operation, State, Phase, absent, opened, closed, answer_now, step, onward}
use Rattle.model.specs.Replay.{Claim, unclaimed, by}

module _ (M : Machine) where
  open M use {Content, advance, apply}

  -- the lines of a log done one after the other
  abbrev pub written : Content → List Entry → Content
  written c [] = c
  written c (l ∷ ls) = written (apply l.op c).1 ls

  -- the answer of a request's next operation
  abbrev pub next_answer : State M → Next → Option ℕ
  next_answer s (op o) = some (answer_now M s o)
  next_answer s (stop status value) = none

  abbrev pub phase_answer : State M → Phase M → Option ℕ
  phase_answer s absent = none
  phase_answer s (opened p n) = next_answer s (advance p)
  phase_answer s (closed w n) = none

  -- the answer that operation k of request r gets in a run
  abbrev pub answer_of : (rid num : ℕ) → List Item → State M → Option ℕ
  answer_of r k [] s = none
  answer_of r k (event e ∷ xs) s = onward (step M s (event e)) (answer_of r k xs)
  answer_of r k (operation q n ∷ xs) s =
      cond (eqb q r && eqb n k) (phase_answer s (s.phase q)) (onward (step M s (operation q n)) (answer_of r k xs))

  -- the answer that the log line of an operation gives, done again at what its object held just before it
  abbrev pub logged_answer : Claim M → Option ℕ
  logged_answer unclaimed = none
  logged_answer (by l c) = some (apply l.op c).0
