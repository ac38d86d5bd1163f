-- Examples, computed. Three cells: key 5 of store 8, key 132 of store 8 in the same bucket, key 5 of store 9.
use Rattle.std.proofs.Common.{◌≡◌, ℕ, List, [], ◌∷◌, map, Some, None, refl}
use Rattle.cells.specs.declared.chains.Cell.{Cell}
use Rattle.cells.specs.Stores.{cell_in, place_of}
use Rattle.cells.specs.Chains.{last, walk, bucket_of}

abbrev cell : (object key value link : ℕ) → Cell
cell object key value link = record { object = object; key = key; value = value; link = link }

abbrev three : List Cell
three = cell 8 5 70 0 ∷ cell 8 132 71 1 ∷ cell 9 5 72 0 ∷ []

buckets : bucket_of 8 5 ∷ bucket_of 8 132 ∷ bucket_of 9 5 ∷ [] ≡ 40 ∷ 40 ∷ 41 ∷ []
buckets = refl

-- walked from place 2, the head of bucket 40, and from place 3, that of bucket 41
walks : walk three 8 132 2048 2 ∷ walk three 8 5 2048 2 ∷ walk three 8 259 2048 2 ∷ walk three 9 5 2048 3 ∷ [] ≡ 2 ∷ 1 ∷ 0 ∷ 3 ∷ []
unfolding walk
walks = refl

cells : map (λ o. cell_in three (place_of three 3 o 5)) (8 ∷ 9 ∷ 10 ∷ []) ≡ Some 70 ∷ Some 72 ∷ None ∷ []
unfolding last
cells = refl
