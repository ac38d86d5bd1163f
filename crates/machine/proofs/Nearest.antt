-- What the lines of a log leave in an object is the nearest write above: the scope's rule for a read, and for code 10.
use Rattle.std.proofs.Common.{◌≡◌, ℕ, zero, suc, ◌<◌, ◌≤◌, Bool, true, false, cond, eqb, refl, ap, ◌∙◌, ltb-false, ltb-true, le-ltb, lt-ltb, eqb-true}
use Rattle.basics.specs.Firsts.{firsts}
use Rattle.basics.proofs.Tests.{by_bool}
use Rattle.text.specs.declared.report.Entry.{Entry}
use Rattle.text.specs.declared.report.Op.{Op}
use Rattle.std.specs.Prelude.{Option, Some}
use Rattle.machine.specs.Objects.{Content, register, store, is_register, at_start, value_of, finds, reads}
use Rattle.machine.specs.Logs.{ops, after, after_all, nearest, writes}
use Rattle.machine.proofs.LogLaws.{after-snoc}

module _ (cs : ℕ → Content) (o : Op) (object : ℕ) where
  -- the object's own content, where the operation is one on it
  own : {c : Content} → eqb o.object object ≡ true → cs object ≡ c → cs o.object ≡ c
  own t e = ap cs (eqb-true o.object object t) ∙ e

  after-register : (key : ℕ) (c : Option ℕ) → object < 8 → cs object ≡ register (value_of c)
      → after cs o object ≡ register (value_of (cond (writes object key o) (Some o.value) c))
  after-register key c h e = by_bool (eqb o.object object) (λ t. rw (lt-ltb object 8 h, own t e, t) (by (eqb o.kind 7))) (λ t. rw t e)
    where
      by : (b : Bool) → cond b (register o.value) (register (value_of c)) ≡ register (value_of (cond b (Some o.value) c))
      by true = refl
      by false = refl

  after_store : (cells : ℕ → Option ℕ) → 8 ≤ object → cs object ≡ store cells
      → after cs o object ≡ store (λ key. cond (writes object key o) (Some o.value) (cells key))
  after_store cells h e =
      by_bool (eqb o.object object)
      (λ t. rw (le-ltb object 8 h, own t e, t) (by_bool (eqb o.kind 9) (λ u. rw u) (λ u. rw u)))
      (λ t. rw t e)

module _ (line : ℕ → Entry) where
  -- a register holds the nearest write, whatever the key
  pub register-nearest : (n object key : ℕ) → object < 8
      → after_all at_start (firsts line n) object ≡ register (value_of (nearest (ops line) object key n))
  unfolding firsts nearest
  register-nearest zero object key h = rw (lt-ltb object 8 h)
  register-nearest (suc n) object key h =
      ap (λ f. f object) (after-snoc at_start (firsts line n) (line n))
      ∙ after-register (after_all at_start (firsts line n)) (line n).op object key (nearest (ops line) object key n) h
      (register-nearest n object key h)

  -- a store holds at each key the nearest put of that key
  pub store-nearest : (n object : ℕ) → 8 ≤ object → after_all at_start (firsts line n) object ≡ store (λ key. nearest (ops line) object key n)
  unfolding firsts nearest
  store-nearest zero object h = rw (le-ltb object 8 h)
  store-nearest (suc n) object h =
      ap (λ f. f object) (after-snoc at_start (firsts line n) (line n))
      ∙ after_store (after_all at_start (firsts line n)) (line n).op object (λ key. nearest (ops line) object key n) h
      (store-nearest n object h)

  -- A read takes the value of the nearest earlier write of its object, of a store at the same key, or 0; kind 10 takes 1 where its store has
  -- such a write, of whatever value, or 0.
  pub read-nearest : (n object : ℕ) (o : Op) → reads o (after_all at_start (firsts line n) object)
      ≡ (let write = nearest (ops line) object o.key n in cond (is_register object) (value_of write) (finds o write))
  read-nearest n object o =
      by_bool (is_register object)
      (λ t. ap (reads o) (register-nearest n object o.key (ltb-true object 8 t)) ∙ rw t)
      (λ t. ap (reads o) (store-nearest n object (ltb-false object 8 t)) ∙ rw t)
