-- The bytes of a quoted text, so that words and examples can be read: `bytes "of="` is 111 ∷ 102 ∷ 61 ∷ [].
use Rattle.std.specs.Prelude.{ℕ, zero, suc, List, [], ◌∷◌}
use Prim.Native.Char.{code}
use Prim.Native.String.{String, len, char_at}

-- n characters from place i on
abbrev pub chars_from : String → ℕ → ℕ → List ℕ
chars_from s i zero = []
chars_from s i (suc n) = code (char_at s i) ∷ chars_from s (suc i) n

abbrev pub bytes : String → List ℕ
bytes s = chars_from s 0 (len s)
