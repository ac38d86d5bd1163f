-- The merge of items that stand in two queues each: a lane (0 the trace, 1 + o the log of object o) and a request, where an item has a number
-- (the request 0, its operations 1 to count, its response count + 1).
use Rattle.std.specs.Prelude.{Bool, true, false, ◌&&◌, not, List, [], ◌∷◌, ℕ, zero, suc, eqb, length}
use Rattle.basics.specs.Choice.{choose}
use Rattle.basics.specs.Maps.{upd}

-- whether a number stands in a list
abbrev pub among : ℕ → List ℕ → Bool
among n [] = false
among n (m ∷ ms) = choose (eqb m n) true (λ _. among n ms)

-- the next number of each request, after one more item of request r
unfoldable pub bump : (ℕ → ℕ) → ℕ → ℕ → ℕ
unfolding upd
bump stage r = upd stage r (suc (stage r))

-- an item taken out of a list, and the others
pub data Pick (A : Type 0) : Type 0 where
  stuck : Pick A
  took : A → List A → Pick A

module _ {A : Type 0} where
  -- the same with x among the others
  abbrev pub keep : A → Pick A → Pick A
  keep x stuck = stuck
  keep x (took y ys) = took y (x ∷ ys)

module _ {A : Type 0} (lane rid num : A → ℕ) where
  -- the first item of `rest` that is first of its lane and next in its request; `seen` are the lanes of the items passed over
  abbrev pub pick : (ℕ → ℕ) → List ℕ → List A → Pick A
  pick stage seen [] = stuck
  pick stage seen (x ∷ xs) =
      choose (not (among (lane x) seen) && eqb (num x) (stage (rid x))) (took x xs) (λ _. keep x (pick stage (lane x ∷ seen) xs))

  -- the order that takes at each step what `pick` gives, and what is left where it stops
  abbrev pub merge : ℕ → (ℕ → ℕ) → List A → List A × List A
  merge zero stage rest = ([], rest)
  merge (suc n) stage rest = elim (pick stage [] rest) [
    | stuck ↦ ([], rest)
    | took x xs ↦ (let m = merge n (bump stage (rid x)) xs in (x ∷ m.0, m.1))
  ]

  -- the merge of all items, from the start
  abbrev pub merge_all : List A → List A × List A
  merge_all all = merge (length all) (λ r. 0) all
