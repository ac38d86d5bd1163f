-- Laws of stores that hold contents: the walk from a bucket's head finds the cell of a key.
use Rattle.std.proofs.Common.{◌≡◌, ℕ, zero, suc, ◌%◌, ◌≤◌, ◌&&◌, true, eqb, List, Option, Some, None, refl, sym, ap, ◌∙◌, arith, eqb-true}
use Rattle.std.specs.Prelude.{option_map}
use Rattle.basics.proofs.Tests.{and-true}
use Rattle.cells.specs.declared.chains.Cell.{Cell}
use Rattle.cells.specs.declared.stores.Stores.{Stores}
use Rattle.cells.specs.Rows.{cell_at, is_at}
use Rattle.cells.specs.Chains.{last, bucket_of, in_bucket, walk, cell_of}
use Rattle.cells.specs.Stores.{Contents, Holds, head_of, cell_in, place_of}
use Rattle.cells.proofs.Last.{last-le, last-true, last-through}
use Rattle.cells.proofs.Walks.{at-bucket, walk-last}

-- the cell of a key, tested for any key
pub at-keys : (cells : List Cell) (object key i : ℕ) → is_at cells object key i ≡ true
    → (o k : ℕ) → is_at cells o k i ≡ (eqb object o && eqb key k)
at-keys cells object key i t o k =
    let x = cell_at cells i in
    let both = and-true (eqb x.object object) (eqb x.key key) t in
    let p : x.object ≡ object = eqb-true _ _ both.0 in
    let q : x.key ≡ key = eqb-true _ _ both.1 in
    λ j. eqb (p j) o && eqb (q j) k

-- a place that is a cell
pub place-is : (p i : ℕ) → p ≤ 2048 → Some i ≡ cell_of p → suc i ≡ p
place-is zero i g e = cc
place-is (suc j) i g e = let d : i ≡ j % 2048 = cc in omega arith

module _ {s : Stores} {c : Contents} (h : Holds s c) (object key : ℕ) where
  abbrev place : ℕ
  place = place_of s.cells s.used object key

  pub place-le : place ≤ s.used
  place-le = last-le (is_at s.cells object key) s.used

  pub found : walk s.cells object key 2048 (head_of s object key) ≡ place
  found =
      let a = bucket_of object key in
      let l = last-le (in_bucket s.cells a) s.used in
      ap (walk s.cells object key 2048) (h.head a (omega arith))
      ∙ walk-last s.cells object key s.used h.few h.link 2048 (last (in_bucket s.cells a) s.used) (omega (arith, h.few)) l
      (last-true (in_bucket s.cells a) s.used)
      ∙ sym (last-through (is_at s.cells object key) (in_bucket s.cells a) s.used (at-bucket s.cells object key))

  -- what a key holds, by the cell r that the walk finds
  module _ (r : Option ℕ) (e : r ≡ cell_of (walk s.cells object key 2048 (head_of s object key))) where
    by_place : (p : ℕ) → p ≤ 2048 → cell_in s.cells p ≡ option_map (λ i. (cell_at s.cells i).value) (cell_of p)
    by_place zero g = refl
    by_place (suc j) g = let m : j % 2048 ≡ j = omega arith in rw m

    held : c object key ≡ option_map (λ i. (cell_at s.cells i).value) r
    held =
        let l = place-le in
        h.cells object key ∙ by_place place (omega (arith, h.few))
        ∙ ap (option_map (λ i. (cell_at s.cells i).value)) (sym (e ∙ ap cell_of found))

    pub held-none : r ≡ None → c object key ≡ None
    held-none d = held ∙ ap (option_map (λ i. (cell_at s.cells i).value)) d

    pub held-some : (i : ℕ) → r ≡ Some i → c object key ≡ Some (cell_at s.cells i).value
    held-some i d = held ∙ ap (option_map (λ i. (cell_at s.cells i).value)) d
