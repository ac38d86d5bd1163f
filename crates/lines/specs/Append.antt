-- What a writer that is told a place answers, and what it leaves in the buffer it was lent.
use Rattle.std.specs.Prelude.{◌≡◌, ℕ, ◌+◌, List, ◌++◌, take, drop}
use Rattle.lines.specs.Put.{written_of, put_of, left_of}

-- the text t was put to place `at` of a buffer, and r is the place behind it; or it did not fit there, and r is `at`
pub record AppendIs (t : List ℕ) (at : ℕ) (before after : List ℕ) (r : ℕ) : Type 0 where
  pub place : r ≡ at + written_of (put_of t (drop at before))
  pub bytes : after ≡ take at before ++ left_of t (drop at before)
