-- The log lines of a batch and the operations that they claim, rows 7 and 8: each line claims one that a count allows, none is claimed twice,
-- and each is claimed.
use Rattle.std.specs.Prelude.{Bool, true, ◌&&◌, ◌||◌, not, List, [], ◌≡◌, ℕ, zero, suc, eqb, ltb, length}
use Rattle.std.proofs.Math.Option.{Option, none}
use Rattle.text.specs.declared.report.Entry.{Entry}
use Rattle.text.specs.declared.report.Of.{Of}
use Rattle.model.specs.Batch.{Batch, named, count_of, claimed}
use Rattle.model.specs.FirstBad.{first_bad}
use Rattle.model.specs.Requests.{row4, row6}

-- Row 7: log line's rid unknown, num 0 or above count, or claimed before.
abbrev pub bad7 : List Of → List Entry → Entry → Bool
bad7 ofs past l =
    not (named ofs l.rid) || (eqb l.num 0 || (ltb (count_of ofs l.rid) l.num || claimed past l.rid l.num))

abbrev pub row7 : Batch → Option ℕ
row7 b = first_bad (bad7 b.ofs) (suc (length b.ofs)) [] b.log

-- Row 8: an operation within the count has no log line.
abbrev pub all_claimed : List Entry → (rid count : ℕ) → Bool
all_claimed log r zero = true
all_claimed log r (suc k) = claimed log r (suc k) && all_claimed log r k

abbrev pub bad8 : List Entry → List Of → Of → Bool
bad8 log past x = not (all_claimed log x.rid x.count)

abbrev pub row8 : Batch → Option ℕ
row8 b = first_bad (bad8 b.log) 1 [] b.ofs

-- no row from 4 to 8 holds
abbrev pub NoneTo8 : (known : ℕ → Bool) → Batch → Type 0
NoneTo8 known b = (row4 known b.trace ≡ none) × (row6 b ≡ none) × (row7 b ≡ none) × (row8 b ≡ none)
