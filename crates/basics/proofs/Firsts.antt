-- Laws of the first n items of a sequence: how many they are, what stands at a place, and what holds of all of them.
use Prim.Native.Nat.{ℕ, zero, suc, ◌+◌, ◌-◌, ◌<◌}
use mathlib.Core.List.{List, [], ◌∷◌, ◌++◌, Memᴰ}
use mathlib.Core.Path.{◌≡◌, refl, ◌∙◌, ap}
use native.Mathlib.Numerals.{add-one}
use native.Mathlib.Omega.{arith}
use lib.ListN.{length, get_or, length-append}
use Rattle.basics.specs.Lists.{All}
use Rattle.basics.specs.Firsts.{firsts}

module _ {A : Type 0} where
  pub firsts-length : (f : ℕ → A) (n : ℕ) → length (firsts f n) ≡ n
  unfolding firsts
  firsts-length f zero = refl
  firsts-length f (suc n) = length-append (firsts f n) (f n ∷ []) ∙ omega (arith, firsts-length f n)

  pub firsts_same : (f g : ℕ → A) (n : ℕ) → ((i : ℕ) → i < n → f i ≡ g i) → firsts f n ≡ firsts g n
  unfolding firsts
  firsts_same f g zero h = refl
  firsts_same f g (suc n) h =
      let e = firsts_same f g n (λ (i : ℕ). λ (k : i < n). h i (omega (arith, k))) in
      let d = h n (omega arith) in
      λ i. e i ++ d i ∷ []

  -- the first of the first, and what stands at a place of them
  pub firsts-front : (f : ℕ → A) (n : ℕ) → firsts f (suc n) ≡ f 0 ∷ firsts (λ i. f (suc i)) n
  unfolding firsts
  firsts-front f zero = refl
  firsts-front f (suc n) = ap (λ t. t ++ f (suc n) ∷ []) (firsts-front f n)

  pub firsts_at : (f : ℕ → A) (n i : ℕ) (d : A) → i < n → get_or (firsts f n) i d ≡ f i
  firsts_at f zero i d h = absurd (omega arith)
  firsts_at f (suc n) zero d h = rw (firsts-front f n)
  firsts_at f (suc n) (suc i) d h = rw (firsts-front f n) (firsts_at (λ i. f (suc i)) n i d (omega arith))

  -- those from k on
  pub firsts-split : (f : ℕ → A) (k m : ℕ) → k < m →
      firsts (λ i. f (k + i)) (m - k) ≡ f k ∷ firsts (λ i. f (k + 1 + i)) (m - (k + 1))
  firsts-split f k m h =
      let z : m - k ≡ suc (m - (k + 1)) = omega arith in
      let o : k + 0 ≡ k = omega arith in
      ap (firsts (λ i. f (k + i))) z ∙ firsts-front (λ i. f (k + i)) (m - (k + 1))
      ∙ (λ i. f (o i)
      ∷ firsts_same (λ i. f (k + suc i)) (λ i. f (k + 1 + i)) (m - (k + 1))
      (λ j _. let e : k + suc j ≡ k + 1 + j = omega arith in ap f e) i)

  -- a list by its places
  pub firsts-get_or : (xs : List A) (d : A) → firsts (λ k. get_or xs k d) (length xs) ≡ xs
  unfolding firsts
  firsts-get_or [] d = refl
  firsts-get_or (x ∷ xs) d = firsts-front (λ k. get_or (x ∷ xs) k d) (length xs) ∙ ap (λ t. x ∷ t) (firsts-get_or xs d)

  -- one record more
  pub firsts_more : (f g : ℕ → A) (n : ℕ) (x : A) → ((i : ℕ) → i < n → f i ≡ g i) → f n ≡ x →
      firsts f (n + 1) ≡ firsts g n ++ x ∷ []
  unfolding firsts
  firsts_more f g n x h e = rw add-one (λ i. firsts_same f g n h i ++ e i ∷ [])

-- what holds of all of them holds of each, and the other way round
pub firsts-all : {A : Type 0} (P : A → Type 0) (f : ℕ → A) (n i : ℕ) → All P (firsts f n) → i < n → P (f i)
firsts-all P f zero i a h = absurd (omega arith)
firsts-all P f (suc n) zero a h = (rw (firsts-front f n) at a).0
firsts-all P f (suc n) (suc i) a h = firsts-all P (λ i. f (suc i)) n i (rw (firsts-front f n) at a).1 (omega arith)

pub all_firsts : {A : Type 0} (P : A → Type 0) (f : ℕ → A) (n : ℕ) → ((i : ℕ) → i < n → P (f i)) → All P (firsts f n)
unfolding firsts
all_firsts P f zero h = tt
all_firsts P f (suc n) h = rw (firsts-front f n) (h 0 (omega arith), all_firsts P (λ i. f (suc i)) n (λ i l. h (suc i) (omega arith)))

-- each is one of them
pub firsts-mem : {A : Type 0} (f : ℕ → A) (n i : ℕ) → i < n → Memᴰ (f i) (firsts f n)
firsts-mem f zero i h = absurd (omega arith)
firsts-mem f (suc n) zero h = rw (firsts-front f n) (Memᴰ.head refl)
firsts-mem f (suc n) (suc i) h = rw (firsts-front f n) (Memᴰ.tail (firsts-mem (λ j. f (suc j)) n i (omega arith)))
