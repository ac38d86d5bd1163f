-- Bits, computed.
use Prim.Native.Nat.{◌-◌, ◌^◌}
use mathlib.Core.Path.{◌≡◌, refl}
use mathlib.Core.List.{[], ◌∷◌, map}
use Rattle.bits.specs.Bits.{bit_at}

-- 13 from its lowest bit on, and the highest bit of 64-bit numbers at the ends and on the two sides of 2 ^ 63
of-13 : map (bit_at 13) (0 ∷ 1 ∷ 2 ∷ 3 ∷ 4 ∷ []) ≡ 1 ∷ 0 ∷ 1 ∷ 1 ∷ 0 ∷ []
of-13 = refl

of-the-ends : map (λ x. bit_at x 63) (0 ∷ (2 ^ 63 - 1) ∷ (2 ^ 63) ∷ (2 ^ 64 - 1) ∷ []) ≡ 0 ∷ 0 ∷ 1 ∷ 1 ∷ []
of-the-ends = refl
