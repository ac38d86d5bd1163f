-- A scan for the first place where a test holds, and the first places of several buckets kept for scans to begin at.
use Rattle.std.specs.Prelude.{ℕ, ◌≤◌, ◌<◌, Bool, true, false, List, ◌≡◌, eqb, length, get_or}

-- s is the first place from i on where P holds, of the places below n; where there is none, s is not below n
pub record FirstFrom (P : ℕ → Bool) (i n s : ℕ) : Type 0 where
  pub skipped : (k : ℕ) → i ≤ k → k < s → k < n → P k ≡ false
  pub found : s < n → (i ≤ s) × (P s ≡ true)

-- of the places from i on below n, the first of each of w buckets
pub record Heads (bucket : ℕ → ℕ) (w n i : ℕ) (heads : List ℕ) : Type 0 where
  pub room : length heads ≡ w
  pub head : (b : ℕ) → b < w → FirstFrom (λ j. eqb (bucket j) b) i n (get_or heads b 0)
