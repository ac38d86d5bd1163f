-- A record that is pushed to a vector joins what was read.
use Rattle.std.proofs.Common.{◌≡◌, ℕ, ◌<◌, ◌≤◌, ◌↔◌, Bool, true, false, List, [], ◌∷◌, ◌++◌, length, Result, Ok, Err, IsOk, OnOk, refl, sym, ap, ◌∙◌, arith}
use mathlib.Core.Option.{Option, some, none}
use lib.Dec.{ltb}
use borrow.Author.Tests.{ltb-true, ltb-false}
use Rattle.std.specs.Result.{is_ok}
use Rattle.basics.proofs.Tests.{by_bool, clash}
use Rattle.text.specs.Text.{within}
use Rattle.text.specs.Steps.{AddIs}
use Rattle.text.proofs.ReadLines.{within-yes, within-no}

-- what is known where it joins, and where it does not
pub joins : {S : Type 0} {o : Option S} (y : S) {K : Type 0} (b : Bool) → b ≡ true → o ≡ some y → K → AddIs o y K b
joins y true e o k = (o, k)
joins y false e o k = clash (cc)

pub stays : {S : Type 0} {o : Option S} (y : S) (K : Type 0) (b : Bool) → b ≡ false → o ≡ none → AddIs o y K b
stays y K true e o = clash (cc)
stays y K false e o = o

-- what `try_push` answers
module _ {X E : Type 0} (r : Result (Unit {0}) E) (xs ys : List X) (x : X) (room : ℕ)
    (variant : IsOk r ↔ (length xs < room)) (ok : OnOk r (ys ≡ xs ++ x ∷ [])) where
  pub pushed : length xs < room → (is_ok r ≡ true) × (ys ≡ xs ++ x ∷ [])
  pushed h = (variant.1 h, by-ok r ok (variant.1 h))
    where
      by-ok : {P : Type 0} (r : Result (Unit {0}) E) → OnOk r P → is_ok r ≡ true → P
      by-ok (Ok u) o e = o
      by-ok (Err e') o e = clash (cc)

  pub unpushed : is_ok r ≡ false → room ≤ length xs
  unpushed e =
      by_bool (ltb (length xs) room)
      (λ t. let z : ◌≡◌ {A = Bool} true false = sym (variant.1 (ltb-true (length xs) room t)) ∙ e in clash (cc))
      (ltb-false (length xs) room)

  -- the vector's room is the limit of the lines
  pub push-within : {S : Type 0} (f : List X → S) (K : Type 0) → K → AddIs (within (length xs) room (f (xs ++ x ∷ []))) (f ys) K (is_ok r)
  push-within f K k =
      by_bool (ltb (length xs) room)
      (λ t.
      let h = ltb-true (length xs) room t in
      let p = pushed h in
      joins (f ys) (is_ok r) p.0 (within-yes (length xs) room _ h ∙ ap (λ t. some (f t)) (sym p.1)) k)
      (λ t.
      let h = ltb-false (length xs) room t in
      stays (f ys) K (is_ok r) (not-yes (is_ok r) (λ e. absurd (omega (arith, variant.0 e)))) (within-no (length xs) room _ h))
    where
      not-yes : (b : Bool) → (b ≡ true → b ≡ false) → b ≡ false
      not-yes true f = f refl
      not-yes false f = refl
