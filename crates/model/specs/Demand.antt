-- Demand 3 of a batch: rows 4 and 6 do not hold of it, and an order of it is allowed.
use Rattle.std.specs.Prelude.{Bool, ◌≡◌, ℕ}
use Rattle.std.proofs.Math.Option.{none}
use Rattle.model.specs.Allowed.{Allowed}
use Rattle.model.specs.Requests.{row4, row6}
use Rattle.model.specs.Batch.{Batch}
use Rattle.model.specs.Machine.{Machine}

pub record Demand3 (M : Machine) (opening : ℕ → M.Content) (known : ℕ → Bool) (b : Batch) : Type 0 where
  -- no rid is used twice, no program unknown, no response without an open request
  pub lines4 : row4 known b.trace ≡ none
  -- the `of` lines are one per request in arrival order
  pub ofs6 : row6 b ≡ none
  pub allowed : Allowed M opening b
