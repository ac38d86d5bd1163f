-- The sum that is printed of a buffer.
use Rattle.std.specs.Prelude.{ℕ, ◌+◌, ◌*◌, ◌%◌, List, [], ◌∷◌}

-- bytes behind the number h, as digits to the base 257, modulo the largest prime below 2^32
unfoldable pub sum_of : ℕ → List ℕ → ℕ
sum_of h [] = h
sum_of h (b ∷ s) = sum_of ((h * 257 + b) % 4294967291) s
