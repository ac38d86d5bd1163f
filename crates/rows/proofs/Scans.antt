-- A scan down a list of lines: what one line does to `first_bad`, and a search among the lines above it.
use Rattle.std.proofs.Common.{◌≡◌, ℕ, suc, ◌+◌, ◌<◌, Bool, true, false, List, [], ◌∷◌, length, get_or, take, drop, reverse, sym, ap, ◌∙◌, arith}
use Rattle.std.proofs.Math.Option.{some}
use Rattle.std.proofs.lemmas.List.{take_more, drop_more, reverse-append}
use Rattle.std.proofs.lemmas.List.Sorted.{list_any-IsPermutation, IsPermutation-reverse}
use Rattle.std.specs.List.{list_any}
use Rattle.model.specs.FirstBad.{first_bad}

-- none of the first i lines is bad; the lines are numbered from n on
pub record Scanned {A : Type 0} (bad : List A → A → Bool) (n : ℕ) (xs : List A) (i : ℕ) : Type 0 where
  pub same : first_bad bad (n + i) (reverse (take i xs)) (drop i xs) ≡ first_bad bad n [] xs

module _ {A : Type 0} {bad : List A → A → Bool} {n : ℕ} {xs : List A} where
  -- line i
  module _ {i : ℕ} (s : Scanned bad n xs i) (h : i < length xs) (d : A) where
    here : first_bad bad (n + i) (reverse (take i xs)) (get_or xs i d ∷ drop (i + 1) xs) ≡ first_bad bad n [] xs
    here = rw (drop_more xs i d h) at s.same

    pub scan-on : bad (reverse (take i xs)) (get_or xs i d) ≡ false → Scanned bad n xs (i + 1)
    scan-on b =
        let z : n + (i + 1) ≡ suc (n + i) = omega arith in
        let t : reverse (take (i + 1) xs) ≡ get_or xs i d ∷ reverse (take i xs) =
        ap reverse (take_more xs i d h) ∙ reverse-append (take i xs) (get_or xs i d ∷ []) in
        record { same = rw (z, t) (rw b at here) }

    pub scan-bad : (line : ℕ) → line ≡ n + i → bad (reverse (take i xs)) (get_or xs i d) ≡ true → some line ≡ first_bad bad n [] xs
    scan-bad line l b = ap some l ∙ rw b at here

-- the lines above one are searched alike upward and downward
pub any-reverse : {A : Type 0} (p : A → Bool) (xs : List A) → list_any p (reverse xs) ≡ list_any p xs
any-reverse p xs = sym (list_any-IsPermutation p xs (reverse xs) (IsPermutation-reverse xs))
