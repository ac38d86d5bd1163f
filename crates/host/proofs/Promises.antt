-- Laws of what calls of std promise.
use Rattle.std.proofs.Common.{◌≡◌, ℕ, ◌+◌, List, [], ◌++◌, length, take, drop, set, ap, ◌∙◌, append-nil, length-set, take_all, drop_of_length-le, arith, refl, sym, subst, Result, Ok, Err}
use Rattle.std.specs.Prelude.{MatchResult}
use Rattle.std.specs.Result.{IsErrAnd}
use Rattle.arrayvec.specs.ArrayVec.{ArrayVec, with_item, with_items}
use Rattle.std.specs.List.{refill}
use Rattle.text.specs.Held.{of_at}
use Rattle.text.specs.declared.report.Of.{Of}
use Rattle.host.specs.Moves.{counted}

-- ── an element of a vector, written through its slice ──
refilled : {A : Type 0} (xs : List A) (s : ℕ) (x : A) → refill (length xs) xs (set xs s x) ≡ set xs s x
refilled xs s x =
    let none : drop (length (set xs s x)) xs ≡ [] = drop_of_length-le xs {i = length (set xs s x)} (omega (arith, length-set xs s x)) in
    ap (λ d. take (length xs) (set xs s x ++ d)) none ∙ ap (take (length xs)) (append-nil (set xs s x))
    ∙ take_all (length xs) (set xs s x) (omega (arith, length-set xs s x))

pub put-item : {A : Type 0} (v : ArrayVec A) (s : ℕ) (x y : A) (zs : List A) → zs ≡ v.items → x ≡ y →
    with_items v (set zs s x) ≡ with_item v s y
put-item v s x y zs e d =
    (λ i. with_items v (set (e i) s (d i))) ∙ ap (λ xs. record { items = xs }) (refilled v.items s y)

-- the `of` line in ys, which is counted, and that in zs, which is written
pub count-as : (ofs ys zs : List Of) (s : ℕ) → ys ≡ ofs → zs ≡ ofs →
    record { rid = (of_at zs s).rid; group = (of_at zs s).group; count = (of_at ys s).count + 1 } ≡ counted (of_at ofs s)
count-as ofs ys zs s e d = λ i. record { rid = (of_at (d i) s).rid; group = (of_at (d i) s).group; count = (of_at (e i) s).count + 1 }

-- ── what the exit of a `?` returns ──
pub left-by : {T E : Type 0} (r : Result T E) (e : E) → IsErrAnd r (λ x. x ≡ e) → r ≡ Err e
left-by (Ok x) e h = absurd h
left-by (Err x) e h = ap Err h

-- ── a result whose error was mapped ──
module _ {T E D : Type 0} (r : Result T E) (q : Result T D) (P : E → D → Type 0) (m : MatchResult r (λ x. q ≡ Ok x) (λ e. IsErrAnd q (P e))) where
  pub error-was : (d : D) → q ≡ Err d → (e : E) × (r ≡ Err e) × P e d
  error-was d e = by r refl
    where
      by : (r' : Result T E) → r ≡ r' → (e : E) × (r ≡ Err e) × P e d
      by (Ok x) f =
          let n : q ≡ Ok x = subst (λ r. MatchResult r (λ x. q ≡ Ok x) (λ e. IsErrAnd q (P e))) f m in
          let z : Ok x ≡ Err d = sym n ∙ e in absurd (cc)
      by (Err y) f =
          let n : IsErrAnd q (P y) = subst (λ r. MatchResult r (λ x. q ≡ Ok x) (λ e. IsErrAnd q (P e))) f m in
          (y, f, subst (λ q. IsErrAnd q (P y)) e n)

  pub ok-was : (x : T) → q ≡ Ok x → r ≡ Ok x
  ok-was x e = by r refl
    where
      by : (r' : Result T E) → r ≡ r' → r ≡ Ok x
      by (Ok y) f =
          let n : q ≡ Ok y = subst (λ r. MatchResult r (λ x. q ≡ Ok x) (λ e. IsErrAnd q (P e))) f m in
          let z : Ok y ≡ Ok x = sym n ∙ e in let d : y ≡ x = cc in f ∙ ap Ok d
      by (Err y) f =
          let n : IsErrAnd q (P y) = subst (λ r. MatchResult r (λ x. q ≡ Ok x) (λ e. IsErrAnd q (P e))) f m in
          absurd (subst (λ q. IsErrAnd q (P y)) e n)
