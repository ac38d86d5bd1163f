-- A position in a list with one item more at the front.
use Rattle.std.proofs.Common.{◌≡◌, suc, ◌+◌, Bool, true, false, ltb, List, ◌∷◌, length, Some, position, arith, lt-ltb, le-ltb}
use Rattle.std.specs.List.{position_or_len}
use Rattle.std.specs.Option.{option_map}
use borrow.Author.Tests.{ltb-true, ltb-false}
use Rattle.basics.proofs.Tests.{by_bool}

module _ {A : Type 0} (p : A → Bool) (x : A) (xs : List A) where
  pub position-here : p x ≡ true → position p (x ∷ xs) ≡ Some 0
  position-here e = rw (e, lt-ltb 0 (suc (length xs)) (omega arith))

  pub position-next : p x ≡ false → position p (x ∷ xs) ≡ option_map suc (position p xs)
  position-next e =
      let n = position_or_len p xs in
      let z : 1 + n ≡ suc n = omega arith in
      by_bool (ltb n (length xs))
      (λ t. let h : ltb (suc n) (suc (length xs)) ≡ true = lt-ltb _ _ (omega (arith, ltb-true n (length xs) t)) in rw (e, z, h, t))
      (λ t. let h : ltb (suc n) (suc (length xs)) ≡ false = le-ltb _ _ (omega (arith, ltb-false n (length xs) t)) in rw (e, z, h, t))
