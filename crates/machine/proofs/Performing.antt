-- Laws of the objects as they are now: what an operation does to the registers and the stores, `apply` does to the objects. A new kind is a
-- clause of `apply` and one law here, beside `store-put` and `store-look`.
use Rattle.std.proofs.Common.{◌≡◌, ℕ, ◌+◌, ◌%◌, ◌<◌, ◌≤◌, true, false, cond, eqb, ltb, List, [], ◌∷◌, ◌++◌, length, get_or, take, set, replicate, sym, refl, ap, ◌∙◌, subst, arith, length-append, length-set, length-take, get_or-set_other, get_or-set_same, le-ltb, lt-ltb, ne_eqb, eqb-true}
use lib.ListN.{length-replicate, get_or-replicate}
use lib.Seq.{sets}
use Rattle.std.proofs.lemmas.List.{take_more}
use Rattle.std.specs.Prelude.{Option, Some, None}
use borrow.Author.Tests.{eqb-false}
use Rattle.basics.proofs.Tests.{by_bool}
use Rattle.text.specs.declared.report.Entry.{Entry}
use Rattle.text.specs.declared.report.Op.{Op}
use Rattle.cells.specs.declared.chains.Cell.{Cell}
use Rattle.cells.specs.Rows.{no_cell}
use Rattle.cells.specs.declared.stores.Stores.{Stores}
use Rattle.cells.specs.Stores.{Contents, Holds, PutsInto, put_in, fits, added}
use Rattle.cells.proofs.Putting.{blank, holds_same}
use Rattle.machine.specs.Objects.{Content, register, store, apply, finds, is_put, is_write, at_start}
use Rattle.machine.specs.Logs.{after, after_all, answers_from}
use Rattle.machine.specs.declared.objects.Objects.{Objects}
use Rattle.machine.specs.Held.{no_objects, cells_of, ObjectsHeld, register_left, stores_left, StoreIs, PerformedIs, AnsweredIs}
use Rattle.machine.proofs.LogLaws.{after-snoc, answers-snoc, answers-length, sets-snoc}

-- ── before the first operation ──
-- cleared registers and heads, and cells of any kind
pub objects-start : (cells : List Cell) → length cells ≡ 2048 →
    ObjectsHeld (record { registers = replicate 8 0; stores = record { cells = cells; heads = replicate 1016 0; used = 0 } }) at_start
objects-start cells r =
    record {
      room = length-replicate {A = ℕ} 8 0;
      values = λ o k. rw (lt-ltb o 8 k) (ap register (sym (get_or-replicate 8 o 0 0 k)));
      stores = λ o k. rw (le-ltb o 8 k);
      contents = holds_same (λ o key. by_bool (ltb o 8) (λ t. rw t) (λ t. rw t)) (blank cells r);
    }

pub no-objects-start : ObjectsHeld no_objects at_start
no-objects-start = objects-start _ (length-replicate 2048 no_cell)

-- ── an operation on a store ──
-- with a free cell, a put can be done and takes one at most
fits-free : (n : ℕ) (x : Option ℕ) → n < 2048 → fits n x ≡ true
fits-free n None h = lt-ltb n 2048 h
fits-free n (Some v) h = refl

added-few : (n : ℕ) (x : Option ℕ) → added n x ≤ 1
added-few n None = by_bool (ltb n 2048) (λ t. rw t (omega arith)) (λ t. rw t (omega arith))
added-few n (Some v) = omega arith

module _ (c : Contents) (x : Op) where
  left-put : is_put x ≡ true → (o k : ℕ) → stores_left x c o k ≡ put_in c x.object x.key x.value o k
  left-put t o k =
      by_bool (eqb x.object o)
      (λ u. let e = eqb-true x.object o u in rw (u, t) (ap (λ m. cond (eqb x.key k) (Some x.value) (c m k)) e))
      (λ u. rw u)

  left-same : is_put x ≡ false → (o k : ℕ) → stores_left x c o k ≡ c o k
  left-same t o k = by_bool (eqb x.object o) (λ u. let e = eqb-true x.object o u in rw (u, t) (ap (λ m. c m k) e)) (λ u. rw u)

  pub store-put : (s s' : Stores) → is_put x ≡ true → s.used < 2048 → PutsInto s.used c x.object x.key x.value s' → StoreIs s c x s' 0
  store-put s s' t h p =
      let held = c x.object x.key in
      record {
        answer = rw t;
        held = holds_same (left-put t)
            (subst (λ b. Holds s' (cond b (put_in c x.object x.key x.value) c)) (fits-free s.used held h) p.holds);
        few = omega (arith, p.count, added-few s.used held);
      }

  pub store-look : (s : Stores) (held : Option ℕ) (v : ℕ) → is_put x ≡ false → held ≡ c x.object x.key → v ≡ finds x held → Holds s c →
      StoreIs s c x s v
  store-look s held v t e d h = record { answer = rw t (d ∙ ap (finds x) e); held = holds_same (left-same t) h; few = omega arith }

-- ── an operation on any object ──
-- a register stays a register, a store a store
register-left : (x : Op) (v : ℕ) → (apply x (register v)).1 ≡ register (register_left x v)
register-left x v = by_bool (is_write x) (λ t. rw t) (λ t. rw t)

store-left : (x : Op) (cells : ℕ → Option ℕ) → (apply x (store cells)).1 ≡ store (cells_of (apply x (store cells)).1)
store-left x cells = by_bool (is_put x) (λ t. rw t) (λ t. rw t)

module _ (now : Objects) (cs : ℕ → Content) (h : ObjectsHeld now cs) (x : Op) where
  open now use {registers, stores}

  -- another object is as it was
  other : (o : ℕ) → eqb x.object o ≡ false → after cs x o ≡ cs o
  other o t = rw t

  -- and this one as `apply` leaves it
  own : (o : ℕ) (c : Content) → eqb x.object o ≡ true → cs x.object ≡ c → after cs x o ≡ (apply x c).1
  own o c t e = rw t (ap (λ c. (apply x c).1) e)

  module _ (k : x.object < 8) where
    abbrev v : ℕ
    v = get_or registers (x.object % 8) 0

    abbrev left : List ℕ
    left = set registers (x.object % 8) (register_left x v)

    here : x.object % 8 ≡ x.object
    here = omega arith

    value : cs x.object ≡ register v
    value = h.values x.object k ∙ ap (λ m. register (get_or registers m 0)) (sym here)

    left-values : (o : ℕ) → o < 8 → after cs x o ≡ register (get_or left o 0)
    left-values o l =
        by_bool (eqb x.object o)
        (λ t. let e : x.object % 8 ≡ o = here ∙ eqb-true x.object o t in
        own o (register v) t value ∙ register-left x v
        ∙ ap register (sym (get_or-set_same registers (x.object % 8) (register_left x v) 0 (omega (arith, h.room))) ∙ ap (λ m. get_or left m 0) e))
        (λ t. let d = eqb-false x.object o t in
        other o t ∙ h.values o l
        ∙ ap register (sym (get_or-set_other registers (x.object % 8) o (register_left x v) 0 (λ e. d (sym (e ∙ here))))))

    left-cells : (o key : ℕ) → cells_of (after cs x o) key ≡ cells_of (cs o) key
    left-cells o key =
        by_bool (eqb x.object o)
        (λ t. let e : cs o ≡ register v = ap cs (sym (eqb-true x.object o t)) ∙ value in
        ap (λ c. cells_of c key) (own o (register v) t value ∙ register-left x v) ∙ ap (λ c. cells_of c key) (sym e))
        (λ t. ap (λ c. cells_of c key) (other o t))

    pub performs-register : (w : ℕ) → w ≡ (apply x (register v)).0 → PerformedIs now cs x (record now { registers = left }) w
    performs-register w e =
        record {
          answer = e ∙ ap (λ c. (apply x c).0) (sym value);
          held =
              record {
                room = length-set registers (x.object % 8) (register_left x v) ∙ h.room;
                values = left-values;
                stores = λ o l.
                    let d = other o (ne_eqb x.object o (λ e. absurd (omega arith))) in
                    d ∙ h.stores o l ∙ ap (λ c. store (cells_of c)) (sym d);
                contents = holds_same left-cells h.contents;
              };
          few = omega arith;
        }

  module _ (k : 8 ≤ x.object) {stores' : Stores} {w : ℕ} (s : StoreIs stores (λ o. cells_of (cs o)) x stores' w) where
    abbrev held : Content
    held = store (cells_of (cs x.object))

    is_held : cs x.object ≡ held
    is_held = h.stores x.object k

    left-store : (o : ℕ) → 8 ≤ o → after cs x o ≡ store (cells_of (after cs x o))
    left-store o l =
        by_bool (eqb x.object o)
        (λ t. let e = own o held t is_held in
        e ∙ store-left x (cells_of (cs x.object)) ∙ ap (λ c. store (cells_of c)) (sym e))
        (λ t. let d = other o t in d ∙ h.stores o l ∙ ap (λ c. store (cells_of c)) (sym d))

    same-cells : (o key : ℕ) → cells_of (after cs x o) key ≡ stores_left x (λ o. cells_of (cs o)) o key
    same-cells o key =
        by_bool (eqb x.object o)
        (λ t. ap (λ c. cells_of c key) (own o held t is_held) ∙ rw t)
        (λ t. ap (λ c. cells_of c key) (other o t) ∙ rw t)

    pub performs-store : PerformedIs now cs x (record now { stores = stores' }) w
    performs-store =
        record {
          answer = s.answer ∙ ap (λ c. (apply x c).0) (sym is_held);
          held =
              record {
                room = h.room;
                values = λ o l. other o (ne_eqb x.object o (λ e. absurd (omega arith))) ∙ h.values o l;
                stores = left-store;
                contents = holds_same same-cells s.held;
              };
          few = s.few;
        }

-- ── one line after the other ──
pub answered-none : (h : Objects) (cs : ℕ → Content) (out : List ℕ) → ObjectsHeld h cs → AnsweredIs h cs [] out h out
answered-none h cs out held = record { answers = refl; held = held; few = omega arith }

module _ (h now : Objects) (cs : ℕ → Content) (ls : List Entry) (i : ℕ) (out out' : List ℕ) (g : i < length ls)
    (a : AnsweredIs h cs (take i ls) out now out') where
  reached : length (take i ls) ≡ i
  reached = omega (arith, length-take i ls)

  pub answered-room : h.stores.used + i < 2048 → now.stores.used < 2048
  answered-room r = omega (arith, a.few, reached)

  pub answered-more : (d : Entry) (next : Objects) (v : ℕ) → PerformedIs now (after_all cs (take i ls)) (get_or ls i d).op next v →
      AnsweredIs h cs (take (i + 1) ls) out next (set out' i v)
  answered-more d next v p =
      let l = get_or ls i d in
      let z : 0 + length (answers_from cs (take i ls)) ≡ i = omega (arith, answers-length cs (take i ls), reached) in
      let m : length (take i ls ++ l ∷ []) ≡ length (take i ls) + 1 = length-append (take i ls) _ in
      rw (take_more ls i d g)
      (record {
        answers = sym (ap (sets out 0) (answers-snoc cs (take i ls) l) ∙ sets-snoc out 0 (answers_from cs (take i ls)) _ ∙ rw (z, a.answers, p.answer));
        held = subst (ObjectsHeld next) (sym (after-snoc cs (take i ls) l)) p.held;
        few = omega (arith, p.few, a.few, m);
      })
