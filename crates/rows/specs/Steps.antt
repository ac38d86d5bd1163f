-- What the private functions of this crate promise. The public contracts do not need it.
use Rattle.std.specs.Prelude.{ℕ, ◌+◌, ◌*◌, ◌%◌, Bool, false, not, ◌||◌, List, eqb, ltb}
use Rattle.std.specs.List.{list_any}
use Rattle.text.specs.Formats.{most_rids}
use Rattle.text.specs.declared.report.Entry.{Entry}
use Rattle.text.specs.declared.report.Of.{Of}
use Rattle.text.specs.declared.trace.Event.TheVariants.{Request, Response}
use Rattle.text.specs.declared.trace.Event.{Event}
use Rattle.model.specs.Batch.{named, count_of}

-- two events of one kind and one rid
abbrev pub alike : Event → Event → Bool
alike (Request q p x y) (Request r prog a b) = eqb q r
alike (Request q p x y) (Response r status value) = false
alike (Response q s v) (Request r prog a b) = false
alike (Response q s v) (Response r status value) = eqb q r

abbrev pub has_like : Event → List Event → Bool
has_like e ds = list_any (λ d. alike d e) ds

-- an event that has a known program, or a request of its rid among the events above it
abbrev pub may_stand : (known : ℕ → Bool) → List Event → Event → Bool
may_stand known above (Request r prog a b) = known prog
may_stand known above (Response r status value) = has_like (Request r 0 0 0) above

-- no count allows operation k of request r
abbrev pub beyond : List Of → (rid num : ℕ) → Bool
beyond ofs r k = not (named ofs r) || (eqb k 0 || ltb (count_of ofs r) k)

-- a claim in one number, and that of a log line
abbrev pub packed : (rid num : ℕ) → ℕ
packed r k = r % most_rids * 512 + k % 512

abbrev pub packed_claim : Entry → ℕ
packed_claim l = packed l.rid l.num
