-- Neighbours and later items of a list, when all its items are mapped.
use mathlib.Core.List.{List, [], ◌∷◌, ◌++◌, map, map-append}
use mathlib.Core.Path.{◌≡◌, refl, ap, ◌∙◌}
use Rattle.basics.specs.Lists.{Neighbours, Later}
use Rattle.basics.proofs.Tests.{clash}

module _ {A B : Type 0} (f : A → B) where
  -- two values that come from items of which T holds
  pub record Images (T : A → A → Type 0) (y x : B) : Type 0 where
    pub source : A
    pub target : A
    pub left : f source ≡ y
    pub right : f target ≡ x
    pub holds : T source target

  pub neighbours-map : (xs : List A) (y x : A) → Neighbours xs y x → Neighbours (map f xs) (f y) (f x)
  neighbours-map xs y x n = record {
    front = map f n.front;
    back = map f n.back;
    split = ap (map f) n.split ∙ map-append f n.front (y ∷ x ∷ n.back);
  }

  pub later-map : (xs : List A) (y x : A) → Later xs y x → Later (map f xs) (f y) (f x)
  later-map xs y x l = record {
    front = map f l.front;
    between = map f l.between;
    back = map f l.back;
    split = ap (map f) l.split ∙ map-append f l.front (y ∷ (l.between ++ x ∷ l.back))
        ∙ ap (λ t. map f l.front ++ f y ∷ t) (map-append f l.between (x ∷ l.back));
  }

  -- ── back ──
  record Behind (xs : List A) (q : List B) : Type 0 where
    pub front : List A
    pub rest : List A
    pub split : xs ≡ front ++ rest
    pub mapped : map f rest ≡ q

  behind : (xs : List A) (p q : List B) → map f xs ≡ p ++ q → Behind xs q
  behind xs [] q e = record { front = []; rest = xs; split = refl; mapped = e }
  behind [] (z ∷ p) q e = clash (cc)
  behind (a ∷ xs) (z ∷ p) q e =
      let h = behind xs p q (let e' : map f xs ≡ p ++ q = cc in e') in
      record { front = a ∷ h.front; rest = h.rest; split = ap (λ t. a ∷ t) h.split; mapped = h.mapped }

  record Headed (xs : List A) (y : B) (q : List B) : Type 0 where
    pub item : A
    pub rest : List A
    pub split : xs ≡ item ∷ rest
    pub image : f item ≡ y
    pub mapped : map f rest ≡ q

  headed : (xs : List A) (y : B) (q : List B) → map f xs ≡ y ∷ q → Headed xs y q
  headed [] y q e = clash (cc)
  headed (a ∷ xs) y q e = record { item = a; rest = xs; split = refl; image = cc; mapped = cc }

  pub neighbours-unmap : (xs : List A) (y x : B) → Neighbours (map f xs) y x → Images (Neighbours xs) y x
  neighbours-unmap xs y x n =
      let s = behind xs n.front (y ∷ x ∷ n.back) n.split in
      let u = headed s.rest y (x ∷ n.back) s.mapped in
      let v = headed u.rest x n.back u.mapped in
      record {
        source = u.item;
        target = v.item;
        left = u.image;
        right = v.image;
        holds = record {
          front = s.front;
          back = v.rest;
          split = s.split ∙ ap (λ t. s.front ++ t) (u.split ∙ ap (λ t. u.item ∷ t) v.split);
        };
      }

  put-together : (xs front rest middle between rest' back : List A) (a c : A) → xs ≡ front ++ rest → rest ≡ a ∷ middle →
      middle ≡ between ++ rest' → rest' ≡ c ∷ back → xs ≡ front ++ a ∷ (between ++ c ∷ back)
  put-together xs front rest middle between rest' back a c e d g h =
      e ∙ ap (λ t. front ++ t) d ∙ ap (λ t. front ++ a ∷ t) g ∙ ap (λ t. front ++ a ∷ (between ++ t)) h

  pub later-unmap : (xs : List A) (y x : B) → Later (map f xs) y x → Images (Later xs) y x
  later-unmap xs y x l =
      let s = behind xs l.front (y ∷ (l.between ++ x ∷ l.back)) l.split in
      let u = headed s.rest y (l.between ++ x ∷ l.back) s.mapped in
      let r = behind u.rest l.between (x ∷ l.back) u.mapped in
      let v = headed r.rest x l.back r.mapped in
      record {
        source = u.item;
        target = v.item;
        left = u.image;
        right = v.image;
        holds = record {
          front = s.front;
          between = r.front;
          back = v.rest;
          split = put-together xs s.front s.rest u.rest r.front r.rest v.rest u.item v.item
              s.split u.split r.split v.split;
        };
      }
