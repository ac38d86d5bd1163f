-- The first fault of rows 8 to 12 of a batch, and the order of its items.
use Rattle.std.specs.Prelude.{Bool, true, List, ◌≡◌, ℕ, ◌+◌, ◌≤◌, ◌<◌, get_or, length, Result, Ok, Err}
use Rattle.std.proofs.Math.Option.{none}
use Rattle.basics.specs.Lists.{All}
use Rattle.basics.specs.Firsts.{firsts}
use Rattle.text.specs.Formats.{most_entries, most_objects, most_operations, most_programs}
use Rattle.text.specs.declared.programs.Programs.{Programs}
use Rattle.model.specs.Audit.{row9, from8}
use Rattle.model.specs.Requests.{row4, row6}
use Rattle.model.specs.Claims.{row7}
use Rattle.model.specs.Batch.{Batch}
use Rattle.model.specs.Checks.{Verdict, verdict, first_fault}
use Rattle.model.specs.Nodes.{merge_of}
use Rattle.machine.specs.Instance.{machine_of}
use Rattle.machine.specs.declared.objects.Objects.{Objects}
use Rattle.cells.specs.Rows.{most_cells}
use Rattle.machine.specs.Held.{ObjectsHeld}
use Rattle.machine.specs.Objects.{Content}
use Rattle.replay.specs.Held.{node_at}
use Rattle.replay.specs.declared.batch.Fault.{Fault}

-- What is known of a batch when row 8 is looked at: no row from 4 to 7 holds, the programs are no more than may be, and objects and counts are in
-- the range of a readable report.
pub record Ready (known : ℕ → Bool) (b : Batch) : Type 0 where
  pub none_to_7 : (row4 known b.trace ≡ none) × (row6 b ≡ none) × (row7 b ≡ none)
  pub programs : (prog : ℕ) → known prog ≡ true → prog < most_programs
  pub objects : All (λ l. l.op.object < most_objects) b.log
  pub counts : All (λ x. x.count ≤ most_operations) b.ofs

-- a fault as a verdict; row 0 and line 0 where there is none
abbrev pub verdict_of : Result (Unit {0}) Fault → Verdict
verdict_of (Ok u) = verdict 0 0
verdict_of (Err f) = verdict f.row f.line

-- r is the first fault of rows 8 to 12, from contents at the start. What r is of a batch that is not ready is left free.
abbrev pub Judges : (opening : ℕ → Content) → Programs → Batch → Result (Unit {0}) Fault → Type 0
Judges opening ps b r = (known : ℕ → Bool) → Ready known b → verdict_of r ≡ first_fault (from8 (machine_of ps.table) opening b)

-- from the objects as they are, where there is room for a cell of each line
abbrev pub JudgesFrom : Objects → Programs → Batch → Result (Unit {0}) Fault → Type 0
JudgesFrom o ps b r =
    (opening : ℕ → Content) → ObjectsHeld o opening → o.stores.used + most_entries ≤ most_cells → Judges opening ps b r

-- Places in the front of an array are the order of the items. What stands there of a batch that is not ready, or whose order returns to
-- itself, is left free.
unfoldable pub Orders : Batch → (order : List ℕ) → Type 0
Orders b order = (known : ℕ → Bool) → Ready known b → row9 b ≡ none →
    firsts (λ k. node_at b (get_or order k 0)) (length b.log + length b.trace) ≡ (merge_of b).0
