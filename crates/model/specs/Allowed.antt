-- The orders that demand 3 allows.
use mathlib.Core.List.{List, [], ◌∷◌, Memᴰ}
use Rattle.std.proofs.Math.Option.{some}
use Rattle.std.specs.Prelude.{◌≡◌, ℕ}
use Rattle.text.specs.declared.report.Of.{Of}
use Rattle.text.specs.declared.trace.Event.{Event}
use Rattle.model.specs.Batch.{Batch, log_of}
use Rattle.model.specs.Machine.{Machine}
use Rattle.model.specs.PlainRun.{Item, event, operation, State, initial, run, operations_of, path_of}

-- the trace lines of an order
abbrev pub events_of : List Item → List Event
events_of [] = []
events_of (event e ∷ xs) = e ∷ events_of xs
events_of (operation r k ∷ xs) = events_of xs

pub record Allowed (M : Machine) (opening : ℕ → M.Content) (b : Batch) : Type 0 where
  pub order : List Item
  -- each trace line once, in the trace's order
  pub events : events_of order ≡ b.trace
  -- the run does not fail
  pub final : State M
  pub runs : run M order (initial M opening) ≡ some final
  -- and ends with as many operations of each request as its `of` line counts,
  pub counts : (x : Of) → Memᴰ x b.ofs → operations_of M (final.phase x.rid) ≡ x.count
  -- with each object's log as the report has it,
  pub logs : (o : ℕ) → final.logs o ≡ log_of o b.log
  -- and with one path for all requests of a group
  pub group_path : ℕ → List ℕ
  pub paths : (x : Of) → Memᴰ x b.ofs → path_of M (final.phase x.rid) ≡ group_path x.group
