-- The `of` lines of a report by their rids: a line is looked for from the first of its bucket on.
use Rattle.std.specs.Prelude.{ℕ, ◌%◌, List, length}
use Rattle.basics.specs.Scans.{Heads}
use Rattle.text.specs.Held.{of_at}
use Rattle.text.specs.declared.report.Of.{Of}

-- rids fall into so many buckets, by their remainder
abbrev pub slot_buckets : ℕ
slot_buckets = 256

abbrev pub slot_bucket : (rid : ℕ) → ℕ
slot_bucket r = r % slot_buckets

-- the first of the `of` lines in each bucket
abbrev pub Slots : (ofs : List Of) (heads : List ℕ) → Type 0
Slots ofs heads = Heads (λ i. slot_bucket (of_at ofs i).rid) slot_buckets (length ofs) 0 heads
