-- The merge over arrays: an item is its position. Lanes and requests are taken modulo how many there are, so that every array has a meaning.
use Rattle.std.specs.Prelude.{List, [], ◌∷◌, ◌++◌, ℕ, zero, suc, ◌%◌, min, get_or, length, drop}
use Rattle.ordering.specs.declared.Merged.{Merged}
use Rattle.ordering.specs.Merge.{merge}

-- the lanes: the trace and each object
abbrev pub lanes : ℕ
lanes = 17

-- the most items of a merge, and the most requests that they are of
abbrev pub merged_items : ℕ
merged_items = 1152

abbrev pub merged_requests : ℕ
merged_requests = 64

-- the m positions from i on
abbrev pub up_from : ℕ → ℕ → List ℕ
up_from i zero = []
up_from i (suc m) = i ∷ up_from (suc i) m

-- what an array says of the item at a position
abbrev pub slot : List ℕ → ℕ → ℕ → ℕ
slot xs m i = get_or xs i 0 % m

abbrev pub value : List ℕ → ℕ → ℕ
value xs i = get_or xs i 0

-- the order of the first n items, and what is left
unfoldable pub merge_of : List ℕ → List ℕ → List ℕ → ℕ → List ℕ × List ℕ
merge_of lane request number n = merge (slot lane lanes) (slot request merged_requests) (value number) n (λ r. 0) (up_from 0 n)

-- the merge of what the arrays hold: as many items as the shortest array has, the one to write to among them, and no more than `merged_items`
abbrev pub merge_arrays : List ℕ → List ℕ → List ℕ → List ℕ → List ℕ × List ℕ
merge_arrays lane request number out =
    merge_of lane request number (min (length lane) (min (length request) (min (length number) (min (length out) merged_items))))

-- a list written over the front of an array
abbrev pub over_front : List ℕ → List ℕ → List ℕ
over_front xs out = xs ++ drop (length xs) out

-- the array `out` behind the merge: the order in its front
abbrev pub order_in : List ℕ → List ℕ → List ℕ → List ℕ → List ℕ
order_in lane request number out = over_front (merge_arrays lane request number out).0 out

-- how many items are taken and how many are left
abbrev pub counts : List ℕ × List ℕ → Merged
counts m = record { taken = length m.0; left = length m.1 }

abbrev pub counts_of : List ℕ → List ℕ → List ℕ → List ℕ → Merged
counts_of lane request number out = counts (merge_arrays lane request number out)
