-- Laws of a line as bytes.
use Rattle.std.proofs.Common.{◌≡◌, ℕ, suc, ◌+◌, ◌-◌, ◌*◌, ◌<◌, ◌≤◌, Bool, true, false, ltb, List, [], ◌∷◌, ◌++◌, length, get_or, drop, Option, Some, None, sym, refl, ap, ◌∙◌, arith, length-append, length-drop, drop_of_length-le, w64, Fits, ltb-false, ltb-true, le-ltb, lt-ltb}
use Rattle.lines.specs.Decimal.{decimal}
use Rattle.lines.specs.LineText.{separator_of, numbers_text, line_text}
use Rattle.lines.specs.Steps.{room_behind}
use Rattle.lines.proofs.Decimals.{decimal-20}
use Rattle.std.proofs.lemmas.List.{drop_more}

pub separator-comma : (i n : ℕ) → i < n → 44 ≡ separator_of i n
unfolding separator_of
separator-comma i n h = simp (lt-ltb i n h, separator_of)

pub separator-feed : (i n : ℕ) → n ≤ i → 10 ≡ separator_of i n
unfolding separator_of
separator-feed i n h = simp (le-ltb i n h, separator_of)

separator-shift : (i n : ℕ) → separator_of 0 (n - i) ≡ separator_of i n
separator-shift i n = go (ltb i n) refl
  where
    go : (b : Bool) → ltb i n ≡ b → separator_of 0 (n - i) ≡ separator_of i n
    go true e = sym (separator-comma 0 (n - i) (omega (arith, ltb-true i n e))) ∙ separator-comma i n (ltb-true i n e)
    go false e = sym (separator-feed 0 (n - i) (omega (arith, ltb-false i n e))) ∙ separator-feed i n (ltb-false i n e)

-- one number more, and what stands behind it
pub numbers_more : (v : ℕ) (vs : List ℕ) → length (numbers_text (v ∷ vs)) ≡ length (decimal v) + 1 + length (numbers_text vs)
unfolding numbers_text
numbers_more v vs = omega (arith, length-append (decimal v) (separator_of 0 (length vs) ∷ numbers_text vs))

-- number i, and those behind it
module _ (v : List ℕ) (i : ℕ) where
  pub numbers-next : i < length v
      → numbers_text (drop i v) ≡ decimal (get_or v i 0) ++ separator_of (i + 1) (length v) ∷ numbers_text (drop (i + 1) v)
  unfolding numbers_text
  numbers-next h = ap numbers_text (drop_more v i 0 h) ∙ rw (length-drop (i + 1) v, separator-shift (i + 1) (length v)) refl

  -- how long they are
  pub numbers-step : i < length v
      → length (numbers_text (drop i v)) ≡ length (decimal (get_or v i 0)) + 1 + length (numbers_text (drop (i + 1) v))
  numbers-step h = ap (λ l. length (numbers_text l)) (drop_more v i 0 h) ∙ numbers_more _ _

  pub numbers-done : length v ≤ i → numbers_text (drop i v) ≡ []
  unfolding numbers_text
  numbers-done h = rw (drop_of_length-le v h) refl

-- a number of 64 bits takes at most 20 bytes, and one more for what stands behind it
pub numbers-most : (v : List ℕ) → ((i : ℕ) → Fits w64 (get_or v i 0)) → length (numbers_text v) ≤ 21 * length v
unfolding numbers_text
numbers-most [] f = omega arith
numbers-most (x ∷ v) f = omega (arith, numbers_more x v, decimal-20 x (f 0).fits, numbers-most v (λ i. f (suc i)))

pub line-text : (w vs : List ℕ) → line_text w vs ≡ w ++ numbers_text vs
unfolding line_text
line-text w vs = refl

pub line-length : (w vs : List ℕ) → length (line_text w vs) ≡ length w + length (numbers_text vs)
line-length w vs = ap length (line-text w vs) ∙ length-append w (numbers_text vs)

-- a number on a line of its own
pub number-length : (v : ℕ) → length (numbers_text (v ∷ [])) ≡ length (decimal v) + 1
unfolding numbers_text
number-length v = length-append (decimal v) _

-- numbers on one line are as long as each on a line of its own
pub numbers_apart : (v : ℕ) (vs : List ℕ) → length (numbers_text (v ∷ vs)) ≡ length (numbers_text (v ∷ [])) + length (numbers_text vs)
numbers_apart v vs = omega (arith, numbers_more v vs, number-length v)

-- ── the room behind a text ──

pub room : (n left all : ℕ) → left + n ≡ all → Some left ≡ room_behind all n
unfolding room_behind
room n left all h = let e : left ≡ all - n = omega arith in simp (le-ltb all n (omega arith), room_behind) (ap Some e)

pub no-room : (n all : ℕ) → all < n → None ≡ room_behind all n
unfolding room_behind
no-room n all h = simp (lt-ltb all n h, room_behind)

pub room_is : (n left all : ℕ) → Some left ≡ room_behind all n → n ≤ all
unfolding room_behind
room_is n left all e = go (ltb all n) refl e
  where
    go : (b : Bool) → ltb all n ≡ b → Some left ≡ elim b [ true ↦ None | false ↦ Some (all - n) ] → n ≤ all
    go true h k = cc
    go false h k = ltb-false all n h

pub room_none : (n all : ℕ) → None ≡ room_behind all n → all < n
unfolding room_behind
room_none n all e = go (ltb all n) refl e
  where
    go : (b : Bool) → ltb all n ≡ b → ◌≡◌ {A = Option ℕ} None (elim b [ true ↦ None | false ↦ Some (all - n) ]) → all < n
    go true h k = ltb-true all n h
    go false h k = cc
