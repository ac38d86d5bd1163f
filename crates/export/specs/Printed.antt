-- What the functions that print leave in the buffer that a caller lends. Assumes nothing.
use Rattle.std.specs.Prelude.{ℕ, ◌<◌, List, ◌↔◌, ◌≡◌, length}
use Rattle.lines.specs.Put.{put_of, left_of, written_of}

-- the text t stands in front of the buffer and r is its length; or it did not fit, the buffer is as it was, and r is 0, which says just that
pub record PrintedIs (t before after : List ℕ) (r : ℕ) : Type 0 where
  pub count : r ≡ written_of (put_of t before)
  pub bytes : after ≡ left_of t before
  pub short : (r ≡ 0) ↔ (length before < length t)
