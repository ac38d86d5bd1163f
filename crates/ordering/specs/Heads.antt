-- The first item of each lane that is not taken yet, its head; and the next of the same lane after each item.
use Rattle.std.specs.Prelude.{Bool, cond, ◌&&◌, List, ℕ, zero, suc, ◌<◌, min, eqb, ltb, get_or, set, length, Option, Some, None}
use Rattle.ordering.specs.declared.Front.{Front}
use Rattle.ordering.specs.Positions.{slot, value, lanes, merged_items, merged_requests}

-- the heads and the next items with the items below i put before them, from the last to the first
abbrev pub link_from : List ℕ → ℕ → List ℕ → List ℕ → List ℕ × List ℕ
link_from lane zero head after = (head, after)
link_from lane (suc i) head after =
    link_from lane i (set head (slot lane lanes i) i) (set after i (get_or head (slot lane lanes i) 0))

unfoldable pub link_of : List ℕ → ℕ → List ℕ → List ℕ → List ℕ × List ℕ
link_of lane n = link_from lane (min n (min (length lane) merged_items))

-- whether the item at x is next in its request
abbrev pub is_next : List ℕ → List ℕ → List ℕ → ℕ → Bool
is_next request number stage x = eqb (value number x) (get_or stage (slot request merged_requests x) 0)

-- the smallest below `limit` of the m heads from lane l on that are next in their request; `found` if none is
unfoldable pub search : (ℕ → Bool) → List ℕ → ℕ → ℕ → ℕ → Option Front → Option Front
search next head zero l limit found = found
search next head (suc m) l limit found =
    cond (ltb (get_or head l 0) limit && next (get_or head l 0))
    (search next head m (suc l) (get_or head l 0) (Some (record { lane = l; item = get_or head l 0 })))
    (search next head m (suc l) limit found)

-- the smallest head that is an item, one of the first n, and next in its request, with its lane
unfoldable pub least_of : List ℕ → List ℕ → List ℕ → List ℕ → ℕ → Option Front
least_of request number stage head n =
    search (is_next request number stage) head lanes 0 (min n (min (length request) (length number))) None

-- a head that is found is one of the first n items, and its lane is a lane
abbrev pub Inside : ℕ → Option Front → Type 0
Inside n (Some f) = (f.item < n) × (f.lane < lanes)
Inside n None = Unit {0}
