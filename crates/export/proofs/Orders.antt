-- Laws of an order that is handed out: both slices have room, or both are as they were.
use Prim.Native.Nat.{ℕ, ◌<◌, ◌≤◌}
use mathlib.Core.List.{List, [], ◌∷◌, ◌++◌}
use mathlib.Core.Path.{◌≡◌, sym, ap, ◌∙◌}
use lib.Dec.{ltb}
use lib.ListN.{length, get_or, set}
use borrow.Author.Tests.{ltb-true, ltb-false}
use Rattle.basics.proofs.Tests.{clash, by_bool}
use Rattle.lines.specs.Put.{front, written_of, put_of, left_of, PutIs}
use Rattle.std.proofs.Common.{Option, Some, None}
use Rattle.lines.proofs.Puts.{put-done, front-more}
use Rattle.verifier.specs.declared.Audited.{Audited}
use Rattle.export.specs.Numbers.{audit_numbers, if_both, OrderHanded}
use Rattle.export.proofs.Rooms.{no_room, room}

-- a text that was put had room, and one that was not had none
module _ (t o p : List ℕ) (q : Option ℕ) (i : PutIs t o p q) where
  put-none : q ≡ None → (length o < length t) × (p ≡ o)
  unfolding put_of left_of
  put-none e = by_bool (ltb (length o) (length t))
      (λ b. (ltb-true _ _ b, i.bytes ∙ simp (b, left_of)))
      (λ b. let d : None ≡ Some (length t) = sym e ∙ i.answer ∙ simp (b, put_of) in clash (cc))

  put-wrote : (n : ℕ) → q ≡ Some n → (length t ≤ length o) × (n ≡ length t) × (p ≡ front t o)
  unfolding put_of
  put-wrote n e = by_bool (ltb (length o) (length t))
      (λ b. let d : Some n ≡ None = sym e ∙ i.answer ∙ simp (b, put_of) in clash (cc))
      (λ b. let h = ltb-false _ _ b in let w = put-done t o p q h i in (h, sym (ap written_of e) ∙ w.0, w.1))

module _ {A : Type 0} (out t order : List ℕ) (x y : A) where
  no_place : length out < 7 → y ≡ if_both out t order x y
  no_place h = no_room 7 out _ y h

  no_items : length order < length t → y ≡ if_both out t order x y
  no_items h = by_bool (ltb (length out) 7)
      (λ b. no_room 7 out _ y (ltb-true _ _ b))
      (λ b. no_room (length t) order x y h ∙ room 7 out _ y (ltb-false _ _ b))

  both-rooms : 7 ≤ length out → length t ≤ length order → x ≡ if_both out t order x y
  both-rooms h k = room (length t) order x y k ∙ room 7 out _ y h

module _ (a : Audited) (t out order : List ℕ) where
  pub not-placed : length out < 7 → OrderHanded a t out order out order 0
  not-placed h = record { count = no_place out t order _ _ h; numbers = no_place out t order _ _ h; items = no_place out t order _ _ h }

  module _ (after : List ℕ) (q : Option ℕ) (i : PutIs t order after q) where
    pub not-ordered : q ≡ None → OrderHanded a t out order out after 0
    not-ordered e =
        let p = put-none t order after q i e in
        record {
          count = no_items out t order _ _ p.0;
          numbers = no_items out t order _ _ p.0;
          items = p.1 ∙ no_items out t order _ _ p.0;
        }

    -- n numbers of the order were put, and the result is b
    pub ordered : (n : ℕ) → q ≡ Some n → (b : Audited) → b ≡ a → 7 ≤ length out → (u : List ℕ) → u ≡ front (audit_numbers b) out →
        OrderHanded a t out order (set u 6 n) after 7
    ordered n e b d h u f =
        let w = put-wrote t order after q i n e in
        let g : set u 6 n ≡ front (audit_numbers a ++ (length t ∷ [])) out =
        (λ j. set ((f ∙ ap (λ b. front (audit_numbers b) out) d) j) 6 (w.1 j)) ∙ front-more (audit_numbers a) (length t) out h in
        record {
          count = both-rooms out t order _ _ h w.0;
          numbers = g ∙ both-rooms out t order _ _ h w.0;
          items = w.2 ∙ both-rooms out t order _ _ h w.0;
        }

-- what holds where a result's verdict is 0 holds where the first number handed out is
pub first-number : {P : Type 0} (a : Audited) (out u : List ℕ) (n : ℕ) → u ≡ front (audit_numbers a) out → (a.verdict ≡ 0 → P) →
    get_or (set u 6 n) 0 0 ≡ 0 → P
unfolding front
first-number a out u n e h z = h (sym (ap (λ u. get_or (set u 6 n) 0 0) e) ∙ z)
