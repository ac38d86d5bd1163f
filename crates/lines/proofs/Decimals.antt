-- Laws of a number written in decimal.
use Rattle.std.proofs.Common.{◌≡◌, ℕ, zero, suc, ◌+◌, ◌*◌, ◌/◌, ◌%◌, ◌^◌, ◌<◌, ◌≤◌, Bool, true, false, ltb, List, [], ◌∷◌, ◌++◌, length, sym, refl, ap, ◌∙◌, append_assoc, arith, length-append, ltb-false, ltb-true, le-ltb, lt-ltb}
use Prim.Native.Nat.pow
use Rattle.lines.specs.Decimal.{digits_in, decimal}

digits-small : (k v : ℕ) → v < 10 → digits_in k v ≡ (48 + v) ∷ []
unfolding digits_in
digits-small zero v h = refl
digits-small (suc k) v h = simp (lt-ltb v 10 h, digits_in)

digits-big : (k v : ℕ) → 10 ≤ v → digits_in (suc k) v ≡ digits_in k (v / 10) ++ (48 + v % 10) ∷ []
unfolding digits_in
digits-big k v h = simp (le-ltb v 10 h, digits_in)

-- divisions enough are enough
digits_same : (k j v : ℕ) → v ≤ k → v ≤ j → digits_in k v ≡ digits_in j v
digits_same zero j v h g = digits-small zero v (omega arith) ∙ sym (digits-small j v (omega arith))
digits_same (suc k) zero v h g = digits-small (suc k) v (omega arith) ∙ sym (digits-small zero v (omega arith))
digits_same (suc k) (suc j) v h g = go (ltb v 10) refl (digits_same k j (v / 10))
  where
    go : (b : Bool) → ltb v 10 ≡ b → (v / 10 ≤ k → v / 10 ≤ j → digits_in k (v / 10) ≡ digits_in j (v / 10)) →
        digits_in (suc k) v ≡ digits_in (suc j) v
    go true e ih = let l = ltb-true v 10 e in digits-small (suc k) v l ∙ sym (digits-small (suc j) v l)
    go false e ih =
        let l = ltb-false v 10 e in
        digits-big k v l ∙ ap (λ (t : List ℕ). t ++ (48 + v % 10) ∷ []) (ih (omega arith) (omega arith)) ∙ sym (digits-big j v l)

pub decimal-small : (v : ℕ) → v < 10 → decimal v ≡ (48 + v) ∷ []
unfolding decimal
decimal-small v h = digits-small v v h

pub decimal-big : (v : ℕ) → 10 ≤ v → decimal v ≡ decimal (v / 10) ++ (48 + v % 10) ∷ []
unfolding decimal
decimal-big zero h = absurd (omega arith)
decimal-big (suc k) h =
    digits-big k (suc k) h
    ∙ ap (λ (t : List ℕ). t ++ (48 + suc k % 10) ∷ []) (digits_same k (suc k / 10) (suc k / 10) (omega arith) (omega arith))

pub decimal-more : (v : ℕ) → 10 ≤ v → length (decimal v) ≡ length (decimal (v / 10)) + 1
decimal-more v h = ap length (decimal-big v h) ∙ length-append (decimal (v / 10)) _

pub decimal-one : (v : ℕ) → v < 10 → length (decimal v) ≡ 1
decimal-one v h = ap length (decimal-small v h)

-- two digits at once
pub decimal-tens : (v : ℕ) → 10 ≤ v → v < 100 → decimal v ≡ (48 + v / 10) ∷ (48 + v % 10) ∷ []
decimal-tens v h g = decimal-big v h ∙ ap (λ (t : List ℕ). t ++ (48 + v % 10) ∷ []) (decimal-small (v / 10) (omega arith))

pub decimal-hundreds : (v : ℕ) → 100 ≤ v → decimal v ≡ decimal (v / 100) ++ (48 + v / 10 % 10) ∷ (48 + v % 10) ∷ []
decimal-hundreds v h =
    let e : v / 10 / 10 ≡ v / 100 = omega arith in
    decimal-big v (omega arith)
    ∙ ap (λ (t : List ℕ). t ++ (48 + v % 10) ∷ []) (decimal-big (v / 10) (omega arith))
    ∙ append_assoc (decimal (v / 10 / 10)) _ _
    ∙ ap (λ u. decimal u ++ (48 + v / 10 % 10) ∷ (48 + v % 10) ∷ []) e

pub decimal-two : (v : ℕ) → 10 ≤ v → v < 100 → length (decimal v) ≡ 2
decimal-two v h g = ap length (decimal-tens v h g)

pub decimal-two-more : (v : ℕ) → 100 ≤ v → length (decimal v) ≡ length (decimal (v / 100)) + 2
decimal-two-more v h = ap length (decimal-hundreds v h) ∙ length-append (decimal (v / 100)) _

-- how long a number is, by its last two digits
pub ruleset decimal_lengths = (decimal-one, decimal-two, decimal-two-more)

pub decimal-length : (k v : ℕ) → v < 10 * 10 ^ k → length (decimal v) ≤ k + 1
decimal-length zero v h = omega (arith, decimal-one v (omega arith))
decimal-length (suc k) v h = go (ltb v 10) refl (decimal-length k (v / 10))
  where
    go : (b : Bool) → ltb v 10 ≡ b → (v / 10 < 10 * 10 ^ k → length (decimal (v / 10)) ≤ k + 1) → length (decimal v) ≤ suc k + 1
    go true e ih = omega (arith, decimal-one v (ltb-true v 10 e))
    go false e ih =
        let l = ltb-false v 10 e in
        omega (arith, decimal-more v l, ih (omega (arith, rw pow.suc at h)))

ten-power : (k : ℕ) → 0 < 10 ^ k
ten-power zero = omega arith
ten-power (suc k) = rw pow.suc (omega (arith, ten-power k))

decimal-at_least : (k v : ℕ) → 10 ^ k ≤ v → k + 1 ≤ length (decimal v)
decimal-at_least zero v h = go (ltb v 10) refl
  where
    go : (b : Bool) → ltb v 10 ≡ b → 1 ≤ length (decimal v)
    go true e = omega (arith, decimal-one v (ltb-true v 10 e))
    go false e = omega (arith, decimal-more v (ltb-false v 10 e))
decimal-at_least (suc k) v h =
    let g = rw pow.suc at h in
    omega (arith, decimal-more v (omega (arith, ten-power k)), decimal-at_least k (v / 10) (omega arith))

-- what a number's logarithm tells
pub decimal-power : (k v : ℕ) → 10 ^ k ≤ v → v < 10 * 10 ^ k → length (decimal v) ≡ k + 1
decimal-power k v h g = omega (arith, decimal-at_least k v h, decimal-length k v g)

-- a number of 64 bits has at most 20 digits
pub decimal-20 : (v : ℕ) → v < 2 ^ 64 → length (decimal v) ≤ 20
decimal-20 v h = decimal-length 19 v (omega arith)

-- a larger number takes as many bytes or more
pub decimal-mono : (k v h : ℕ) → h ≤ k → v ≤ h → length (decimal v) ≤ length (decimal h)
decimal-mono zero v h b l = omega (arith, decimal-one v (omega arith), decimal-one h (omega arith))
decimal-mono (suc k) v h b l = go (ltb v 10) (ltb h 10) refl refl (decimal-mono k (v / 10) (h / 10))
  where
    go : (x y : Bool) → ltb v 10 ≡ x → ltb h 10 ≡ y →
        (h / 10 ≤ k → v / 10 ≤ h / 10 → length (decimal (v / 10)) ≤ length (decimal (h / 10))) →
        length (decimal v) ≤ length (decimal h)
    go true true e f ih = omega (arith, decimal-one v (ltb-true v 10 e), decimal-one h (ltb-true h 10 f))
    go true false e f ih = omega (arith, decimal-one v (ltb-true v 10 e), decimal-more h (ltb-false h 10 f))
    go false true e f ih = absurd (omega (arith, ltb-false v 10 e, ltb-true h 10 f))
    go false false e f ih =
        let m = ltb-false h 10 f in
        omega (arith, decimal-more v (ltb-false v 10 e), decimal-more h m, ih (omega (arith, m)) (omega arith))
