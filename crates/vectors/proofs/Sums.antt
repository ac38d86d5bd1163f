-- The sum of a buffer from a place on.
use Rattle.std.proofs.Common.{◌≡◌, ℕ, ◌+◌, ◌*◌, ◌%◌, ◌<◌, ◌≤◌, List, length, get_or, drop, refl, add-one, drop_of_length-le, drop-cons}
use Rattle.vectors.specs.Sums.{sum_of}

-- one byte more, b
pub sum_step : (s : List ℕ) (i h b : ℕ) → i < length s → b ≡ get_or s i 0 →
    sum_of ((h * 257 + b) % 4294967291) (drop (i + 1) s) ≡ sum_of h (drop i s)
unfolding sum_of
sum_step s i h b g e = rw (drop-cons s i 0 g, add-one, e) refl

pub sum_end : (s : List ℕ) (i h : ℕ) → length s ≤ i → sum_of h (drop i s) ≡ h
unfolding sum_of
sum_end s i h g = rw (drop_of_length-le s g) refl
