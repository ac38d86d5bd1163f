-- What a writer answers, and what it leaves in the buffer it was lent.
use Rattle.std.specs.Prelude.{◌≡◌, ℕ, true, false, List, ◌++◌, length, drop, Option, Some, None, unwrap_or, nat_lt}

-- how many bytes were written
abbrev pub written_of : Option ℕ → ℕ
written_of r = unwrap_or r 0

-- the text t in front, and behind it what the buffer o held there
unfoldable pub front : List ℕ → List ℕ → List ℕ
front t o = t ++ drop (length t) o

-- the length of the text t, where it fits into the buffer o
unfoldable pub put_of : List ℕ → List ℕ → Option ℕ
put_of t o = elim (nat_lt (length o) (length t)) [ true ↦ None | false ↦ Some (length t) ]

-- the buffer afterwards: untouched where the text does not fit
unfoldable pub left_of : List ℕ → List ℕ → List ℕ
left_of t o = elim (nat_lt (length o) (length t)) [ true ↦ o | false ↦ front t o ]

-- the text t was put to the front of a buffer, or did not fit
pub record PutIs (t before after : List ℕ) (r : Option ℕ) : Type 0 where
  pub answer : r ≡ put_of t before
  pub bytes : after ≡ left_of t before
