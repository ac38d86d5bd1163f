-- A refusal of the host has a number of its own: no fault has number 0.
use Prim.Native.Nat.{ℕ, suc, ◌≤◌}
use mathlib.Core.Bool.{Bool}
use mathlib.Core.List.{List, [], ◌∷◌}
use mathlib.Core.Option.{Option, none, some}
use native.Mathlib.Omega.{arith}
use Rattle.text.specs.Programs.{read_programs, known}
use Rattle.text.specs.Schedule.{read_schedule}
use Rattle.text.specs.declared.schedule.Move.{Move}
use Rattle.model.specs.Checks.{fault_or, bad_line, contents}
use Rattle.model.specs.Host.{Result, fault, made, Host, empty, Stepped, broken, on, stepped, go_on, run_from, recorded, and_then}
use Rattle.model.specs.Machine.{Machine}
use Rattle.machine.specs.Instance.{machine_of}
use Rattle.machine.specs.Objects.{at_start}
use Rattle.machine.specs.Rules.{row2}
use Rattle.host.specs.Recorded.{row16, batch_recorded, texts_of, record_of}

-- ── a refusal has a number of its own ──
abbrev pub Numbered : {A : Type 0} → Result A → Type 0
Numbered (fault number line) = 1 ≤ number
Numbered (made x) = Unit {0}

then-numbered : {A B : Type 0} (x : Result A) (f : A → Result B) → Numbered x → ((a : A) → Numbered (f a)) → Numbered (and_then x f)
then-numbered (fault number line) f h g = h
then-numbered (made a) f h g = g a

row-numbered : {A : Type 0} (k : ℕ) (o : Option ℕ) (x : Result A) → 1 ≤ k → Numbered x → Numbered (fault_or fault k o x)
row-numbered k none x h g = g
row-numbered k (some n) x h g = h

module _ (M : Machine) (known : ℕ → Bool) (limit : ℕ) where
  lines-numbered : (n : ℕ) (ms : List Move) (h : Host M) → Numbered (run_from M known limit n ms h)
  lines-numbered n [] h = tt
  lines-numbered n (m ∷ ms) h = by (stepped M known limit h m) (lines-numbered (suc n) ms)
    where
      by : (x : Stepped M) → ((h : Host M) → Numbered (run_from M known limit (suc n) ms h)) →
          Numbered (go_on M known limit n x (run_from M known limit (suc n) ms))
      by broken f = omega arith
      by (on h) f = f h

  run-numbered : (objects : ℕ) (opening : ℕ → M.Content) (ms : List Move) → Numbered (recorded M known limit objects opening ms)
  run-numbered objects opening ms =
      then-numbered (run_from M known limit 1 ms (empty M opening)) _ (lines-numbered 1 ms (empty M opening)) (λ h. tt)

pub record-numbered : (programs schedule : List ℕ) (m n : ℕ) → Numbered (record_of programs schedule m n)
unfolding record_of batch_recorded
record-numbered programs schedule m n =
    let p = read_programs programs in
    let s = read_schedule schedule in
    then-numbered (batch_recorded programs schedule) _
    (row-numbered 1 (bad_line p) _ (omega arith)
    (row-numbered 2 (row2 (contents [] p)) _ (omega arith)
    (row-numbered 13 (bad_line s) _ (omega arith)
    (run-numbered (machine_of (contents [] p)) (known (contents [] p)) 1024 16 at_start (contents [] s)))))
    (λ b. row-numbered 16 (row16 m n (texts_of b)) _ (omega arith) tt)
