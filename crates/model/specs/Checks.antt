-- Checks in order: the first fault gives the verdict, with its line.
use Rattle.std.specs.Prelude.{Bool, cond, List, [], ◌∷◌, ℕ}
use Rattle.std.proofs.Math.Option.{Option, none, some}
use Rattle.text.specs.Text.{Read, readable, unreadable}

pub record Verdict : Type 0 where
  pub number : ℕ
  pub line : ℕ

abbrev pub verdict : (number line : ℕ) → Verdict
verdict k n = record { number = k; line = n }

-- a row of the table, and the line that breaks it
pub data Check : Type 0 where
  check : (row : ℕ) (line : Option ℕ) → Check

-- what is said of the first row that holds, with its line; or x, where none does
module _ {A : Type 0} (said : (row line : ℕ) → A) where
  abbrev pub fault_or : (row : ℕ) → Option ℕ → A → A
  fault_or k none x = x
  fault_or k (some n) x = said k n

  abbrev pub unless_fault : List Check → A → A
  unless_fault [] x = x
  unless_fault (check k o ∷ cs) x = fault_or k o (unless_fault cs x)

abbrev pub first_fault : List Check → Verdict
first_fault cs = unless_fault verdict cs (verdict 0 0)

-- the line n, if it breaks a rule
abbrev pub breaks : Bool → ℕ → Option ℕ
breaks bad n = cond bad (some n) none

-- the unreadable line of a text, and what was read: of an unreadable text, as of an empty one, nothing
abbrev pub bad_line : {S : Type 0} → Read S → Option ℕ
bad_line (readable x) = none
bad_line (unreadable n) = some n

abbrev pub contents : {S : Type 0} → S → Read S → S
contents empty (readable x) = x
contents empty (unreadable n) = empty
