-- What holds of all items of a list, how many pass a test, and where an item stands.
use mathlib.Core.Path.{◌≡◌, refl, sym, ap, subst, ◌∙◌}
use mathlib.Core.Logic.{◌⊎◌, inl, inr}
use mathlib.Core.Bool.{Bool, true, false}
use mathlib.Core.List.Memᴰ
use mathlib.Core.List.{
  List,
  [],
  ◌∷◌,
  ◌++◌,
  map,
  Memᴰ,
  append_assoc,
}
use Prim.Native.Nat.{ℕ, zero, suc, ◌+◌, ◌≤◌}
use native.Mathlib.Omega.{arith}
use lib.ListN.{length, get_or}
use Rattle.basics.specs.Lists.{All, Neighbours, Later}
use Rattle.basics.specs.Count.{count}

-- ── all items ──
pub all_append : {A : Type 0} (P : A → Type 0) (xs ys : List A) → All P xs → All P ys → All P (xs ++ ys)
all_append P [] ys h k = k
all_append P (x ∷ xs) ys h k = (h.0, all_append P xs ys h.1 k)

pub all-append-right : {A : Type 0} (P : A → Type 0) (xs ys : List A) → All P (xs ++ ys) → All P ys
all-append-right P [] ys h = h
all-append-right P (x ∷ xs) ys h = all-append-right P xs ys h.1

pub all-append-left : {A : Type 0} (P : A → Type 0) (xs ys : List A) → All P (xs ++ ys) → All P xs
all-append-left P [] ys h = tt
all-append-left P (x ∷ xs) ys h = (h.0, all-append-left P xs ys h.1)

pub all_map : {A B : Type 0} (P : B → Type 0) (f : A → B) (xs : List A) → All (λ x. P (f x)) xs → All P (map f xs)
all_map P f [] h = tt
all_map P f (x ∷ xs) h = (h.0, all_map P f xs h.1)

pub all-unmap : {A B : Type 0} (P : B → Type 0) (f : A → B) (xs : List A) → All P (map f xs) → All (λ x. P (f x)) xs
all-unmap P f [] h = tt
all-unmap P f (x ∷ xs) h = (h.0, all-unmap P f xs h.1)

pub all-mem : {A : Type 0} (P : A → Type 0) (xs : List A) → ((x : A) → Memᴰ x xs → P x) → All P xs
all-mem P [] h = tt
all-mem P (x ∷ xs) h = (h x (Memᴰ.head refl), all-mem P xs (λ y m. h y (Memᴰ.tail m)))

pub mem-all : {A : Type 0} (P : A → Type 0) {x : A} {xs : List A} → All P xs → Memᴰ x xs → P x
mem-all P h (Memᴰ.head e) = subst P (sym e) h.0
mem-all P h (Memᴰ.tail m) = mem-all P h.1 m

pub all-imp : {A : Type 0} (P Q : A → Type 0) → ((x : A) → P x → Q x) → (xs : List A) → All P xs → All Q xs
all-imp P Q f [] h = tt
all-imp P Q f (x ∷ xs) h = (f x h.0, all-imp P Q f xs h.1)

pub all_any : {A : Type 0} (P : A → Type 0) → ((x : A) → P x) → (xs : List A) → All P xs
all_any P f [] = tt
all_any P f (x ∷ xs) = (f x, all_any P f xs)

-- what holds of all items holds at each place, past the end of the default
pub all_get_d : {A : Type 0} (P : A → Type 0) (d : A) → P d → (xs : List A) → All P xs → (i : ℕ) → P (get_or xs i d)
all_get_d P d h [] g i = h
all_get_d P d h (x ∷ xs) g zero = g.0
all_get_d P d h (x ∷ xs) g (suc i) = all_get_d P d h xs g.1 i

-- ── how many pass a test ──
pub count-all : {A : Type 0} (xs : List A) → count (λ x. true) xs ≡ length xs
count-all [] = refl
count-all (x ∷ xs) = omega (arith, count-all xs)

pub count-zero : {A : Type 0} (xs : List A) → count (λ x. false) xs ≡ 0
count-zero [] = refl
count-zero (x ∷ xs) = omega (arith, count-zero xs)

pub count_map : {A B : Type 0} (f : B → Bool) (g : A → B) (xs : List A) → count f (map g xs) ≡ count (λ x. f (g x)) xs
count_map f g [] = refl
count_map f g (x ∷ xs) = omega (arith, count_map f g xs)

module _ {A : Type 0} (f : A → Bool) where
  pub count-append : (xs ys : List A) → count f (xs ++ ys) ≡ count f xs + count f ys
  count-append [] ys = omega arith
  count-append (x ∷ xs) ys = omega (arith, count-append xs ys)

  -- one more at the end
  pub count_yes : (xs : List A) (x : A) → f x ≡ true → count f (xs ++ x ∷ []) ≡ suc (count f xs)
  count_yes xs x e = count-append xs (x ∷ []) ∙ rw e (omega arith)

  pub count_no : (xs : List A) (x : A) → f x ≡ false → count f (xs ++ x ∷ []) ≡ count f xs
  count_no xs x e = count-append xs (x ∷ []) ∙ rw e (omega arith)

  -- a list in which one item passes is split at it in one way
  pub split-unique : (p q : List A) (z : A) (b d : List A) → f z ≡ true → count f (p ++ z ∷ b) ≤ 1 → p ++ z ∷ b ≡ q ++ z ∷ d → p ≡ q
  split-unique [] [] z b d g t e = refl
  split-unique [] (c ∷ q) z b d g t e =
      let i : b ≡ q ++ z ∷ d = cc in
      absurd (let t' = rw (g, i, count-append q (z ∷ d), g) at t in omega arith)
  split-unique (c ∷ p) [] z b d g t e =
      let i : c ≡ z = cc in
      absurd (let t' = rw (i, count-append p (z ∷ b), g) at t in omega arith)
  split-unique (c ∷ p) (e' ∷ q) z b d g t e =
      let i : c ≡ e' = cc in
      let j : p ++ z ∷ b ≡ q ++ z ∷ d = cc in
      let k : p ≡ q = split-unique p q z b d g (omega (arith, t)) j in cc

  -- and what stands before that item stands in front of the split
  pub later-front : (xs p q : List A) (y x : A) → f x ≡ true → count f xs ≤ 1 → Later xs y x → xs ≡ p ++ x ∷ q → Memᴰ y p
  later-front xs p q y x g t l e =
      let s : xs ≡ (l.front ++ y ∷ l.between) ++ x ∷ l.back = l.split ∙ sym (append_assoc l.front (y ∷ l.between) (x ∷ l.back)) in
      let u : p ≡ l.front ++ y ∷ l.between =
      split-unique p (l.front ++ y ∷ l.between) x q l.back g (subst (λ t. count f t ≤ 1) e t) (sym e ∙ s) in
      subst (Memᴰ y) (sym u) (Memᴰ.append_right l.front (Memᴰ.head refl))

  -- no item is later than itself, and what is later than an item is later than those before it
  pub not-later : (xs : List A) (x : A) → f x ≡ true → count f xs ≤ 1 → Later xs x x → ⊥
  not-later xs x g t l =
      let u = subst (λ t. count f t ≤ 1) l.split t in
      let v = rw (count-append l.front (x ∷ (l.between ++ x ∷ l.back)), count-append l.between (x ∷ l.back), g) at u in omega arith

  pub later-next : (xs : List A) (z y x : A) → f y ≡ true → count f xs ≤ 1 → Later xs z y → Neighbours xs y x → Later xs z x
  later-next xs z y x g t l n =
      let s : xs ≡ (l.front ++ z ∷ l.between) ++ y ∷ l.back = l.split ∙ sym (append_assoc l.front (z ∷ l.between) (y ∷ l.back)) in
      let p : l.front ++ z ∷ l.between ≡ n.front =
      split-unique (l.front ++ z ∷ l.between) n.front y l.back (x ∷ n.back) g (subst (λ t. count f t ≤ 1) s t)
      (sym s ∙ n.split) in
      record {
        front = l.front;
        between = l.between ++ (y ∷ []);
        back = n.back;
        split = n.split ∙ ap (λ t. t ++ y ∷ x ∷ n.back) (sym p) ∙ append_assoc l.front (z ∷ l.between) (y ∷ x ∷ n.back)
            ∙ ap (λ t. l.front ++ z ∷ t) (sym (append_assoc l.between (y ∷ []) (x ∷ n.back)));
      }

-- ── neighbours and later items ──
module _ {A : Type 0} where
  pub later-mem : (xs : List A) (y x : A) → Later xs y x → Memᴰ x xs
  later-mem xs y x l =
      subst (Memᴰ x) (sym l.split)
      (Memᴰ.append_right l.front (Memᴰ.tail (Memᴰ.append_right l.between (Memᴰ.head refl))))

  pub neighbours-later : (xs : List A) (y x : A) → Neighbours xs y x → Later xs y x
  neighbours-later xs y x n = record { front = n.front; between = []; back = n.back; split = n.split }

  -- an item of a list is its first, or has a neighbour before it
  abbrev pub First : List A → A → Type 0
  First xs x = (q : List A) × (xs ≡ x ∷ q)

  abbrev pub Preceded : List A → A → Type 0
  Preceded xs x = (y : A) × Neighbours xs y x

  pub first-or : (xs : List A) (x : A) → Memᴰ x xs → First xs x ⊎ Preceded xs x
  first-or [] x m = absurd (Memᴰ.not-nil m)
  first-or (z ∷ xs) x m = at (Memᴰ.cases_cons m) (first-or xs x)
    where
      step : First xs x ⊎ Preceded xs x → Preceded (z ∷ xs) x
      step (inl f) = (z, record { front = []; back = f.0; split = ap (λ t. z ∷ t) f.1 })
      step (inr f) = (f.0, record { front = z ∷ f.1.front; back = f.1.back; split = ap (λ t. z ∷ t) f.1.split })

      at : (x ≡ z) ⊎ Memᴰ x xs → (Memᴰ x xs → First xs x ⊎ Preceded xs x) → First (z ∷ xs) x ⊎ Preceded (z ∷ xs) x
      at (inl e) ih = inl (xs, ap (λ t. t ∷ xs) (sym e))
      at (inr k) ih = inr (step (ih k))
