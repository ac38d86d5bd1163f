-- The order in numbers, written item by item, and what is left of it in a lent slice.
use Prim.Native.Nat.{ℕ, suc, ◌+◌, ◌*◌, ◌-◌, ◌≤◌, ◌<◌}
use mathlib.Core.Bool.{Bool, true, false, cond}
use mathlib.Core.List.{List, [], ◌∷◌, ◌++◌, map, append_assoc, append-nil}
use mathlib.Core.Logic.{◌≢◌}
use mathlib.Core.Path.{◌≡◌, refl, sym, ap, ◌∙◌, subst}
use native.Mathlib.Omega.{arith}
use borrow.Author.Tests.{ltb-true}
use lib.Dec.{ltb}
use lib.ListN.{length, get_or, set, take, drop, length-append, length-drop}
use Rattle.std.proofs.Common.{Some, None}
use Rattle.std.proofs.lemmas.List.{drop_all, drop_more, get_or_read}
use Rattle.lines.specs.Put.{front, PutIs}
use Rattle.lines.proofs.Puts.{put-short, put-fits, front-none, front-two}
use Rattle.text.specs.declared.report.Entry.{Entry}
use Rattle.model.specs.Batch.{Batch, Node, ev, ln}
use Rattle.model.specs.ByRule.{item_of}
use Rattle.model.specs.PlainRun.{Item}
use Rattle.replay.specs.Held.{node_at, no_entry, no_event}
use Rattle.replay.specs.Judges.{Orders}
use Rattle.verifier.specs.Faults.{audit_of}
use Rattle.verifier.specs.Order.{order_of, order_numbers}
use Rattle.verifier.specs.Steps.{refusal, items_in, size_of, OrderIs}
use Rattle.verifier.proofs.OrderReads.{order-none}
use Rattle.verifier.proofs.OrderTexts.{numbers-length}

put-nothing : (o : List ℕ) → PutIs [] o o (Some 0)
put-nothing o = put-fits [] o o 0 (omega arith) refl (front-none o)

module _ (b : Batch) (order : List ℕ) (o : List ℕ) where
  -- the items from i on
  abbrev from : ℕ → List Item
  from i = items_in b (drop i order)

  -- the first i items stand in front of out; `line` events are among them
  pub record Filling (out : List ℕ) (line i : ℕ) : Type 0 where
    pub some : i ≤ length order
    pub few : line ≤ i
    pub room : 2 * length order ≤ length o
    pub done : List ℕ
    pub so_far : length done ≡ 2 * i
    pub written : out ≡ front done o
    pub rest : order_numbers 1 (items_in b order) ≡ done ++ order_numbers (line + 1) (from i)

  pub filling-start : 2 * length order ≤ length o → Filling o 0 0
  filling-start h = record {
    some = omega arith;
    few = omega arith;
    room = h;
    done = [];
    so_far = omega arith;
    written = front-none o;
    rest = refl;
  }

  pub filling-length : (out : List ℕ) (line i : ℕ) → Filling out line i → length out ≡ length o
  unfolding front
  filling-length out line i f =
      omega (
        arith,
        f.some,
        f.room,
        f.so_far,
        ap length f.written,
        length-append f.done (drop (length f.done) o),
        length-drop (length f.done) o,
      )

  module _ (out : List ℕ) (line i : ℕ) (f : Filling out line i) (h : i < length order) where
    pub filling-room : 2 * i + 2 ≤ length out
    filling-room = omega (arith, f.room, filling-length out line i f)

    -- one item more, which is x, and v and w in numbers
    next : (x : Node) → node_at b (get_or order i 0) ≡ x → (v w line' : ℕ) → line' ≤ i + 1 →
        order_numbers (line + 1) (item_of x ∷ from (i + 1)) ≡ v ∷ w ∷ order_numbers (line' + 1) (from (i + 1)) →
        Filling (set (set out (2 * i) v) (2 * i + 1) w) line' (i + 1)
    next x d v w line' l e =
        let more = f.done ++ (v ∷ w ∷ []) in
        let long : length more ≡ 2 * (i + 1) = length-append f.done (v ∷ w ∷ []) ∙ omega (arith, f.so_far) in
        let split : drop i order ≡ get_or order i 0 ∷ drop (i + 1) order = drop_more order i 0 h in
        record {
          some = omega arith;
          few = l;
          room = f.room;
          done = more;
          so_far = long;
          written = front-two f.done more v w o out (2 * i) refl (sym f.so_far) f.written (omega (arith, long, f.room));
          rest =
              f.rest ∙ ap (λ t. f.done ++ order_numbers (line + 1) (items_in b t)) split
              ∙ ap (λ y. f.done ++ order_numbers (line + 1) (item_of y ∷ from (i + 1))) d ∙ ap (λ t. f.done ++ t) e
              ∙ sym (append_assoc f.done (v ∷ w ∷ []) (order_numbers (line' + 1) (from (i + 1))));
        }

    -- which is an operation, or an event; `log` is the batch's
    module _ (p : ℕ) (d : p ≡ get_or order i 0) (log : List Entry) (e : log ≡ b.log) where
      abbrev item : Bool → Node
      item t = cond t (ln (get_or b.log p no_entry)) (ev (get_or b.trace (p - length b.log) no_event))

      item-is : (t : Bool) → t ≡ ltb p (length log) → node_at b (get_or order i 0) ≡ item t
      item-is t h = ap (node_at b) (sym d) ∙ ap item (ap (λ ys. ltb p (length ys)) (sym e) ∙ sym h)

      pub filling-operation : (x : Entry) → true ≡ ltb p (length log) → x ≡ get_or log p x → (out' : List ℕ) →
          out' ≡ set (set out (2 * i) x.rid) (2 * i + 1) x.num → Filling out' line (i + 1)
      unfolding order_numbers
      filling-operation x t r out' w =
          let q = get_or_read log p x (ltb-true p (length log) (sym t)) r no_entry in
          subst (λ t. Filling t line (i + 1)) (sym w)
          (next (ln x) (item-is true t ∙ ap ln (ap (λ ys. get_or ys p no_entry) (sym e) ∙ sym q)) x.rid x.num line (omega (arith, f.few)) refl)

      pub filling-event : false ≡ ltb p (length log) → (out' : List ℕ) → out' ≡ set (set out (2 * i) (line + 1)) (2 * i + 1) 0 →
          Filling out' (line + 1) (i + 1)
      unfolding order_numbers
      filling-event t out' w =
          let m : suc (line + 1) ≡ line + 1 + 1 = omega arith in
          subst (λ t. Filling t (line + 1) (i + 1)) (sym w)
          (next _ (item-is false t) (line + 1) 0 (line + 1) (omega (arith, f.few))
          (ap (λ m. (line + 1) ∷ 0 ∷ order_numbers m (from (i + 1))) m))

  pub filling-done : (out : List ℕ) (line i : ℕ) → Filling out line i → length order ≤ i →
      out ≡ front (order_numbers 1 (items_in b order)) o
  unfolding order_numbers
  filling-done out line i f h =
      let e : order_numbers 1 (items_in b order) ≡ f.done =
      f.rest ∙ ap (λ t. f.done ++ order_numbers (line + 1) (items_in b t)) (drop_all i order h) ∙ append-nil f.done in
      f.written ∙ ap (λ t. front t o) (sym e)

-- ── what `put_numbers` leaves ──
module _ (b : Batch) (o : List ℕ) (items : List Item) (is : OrderIs b items) where
  numbers-long : length (order_numbers 1 items) ≡ 2 * size_of b
  numbers-long = numbers-length 1 items ∙ ap (λ k. 2 * k) is.all

  pub put-none : (n : ℕ) → n ≡ size_of b → n ≡ 0 → PutIs (order_numbers 1 items) o o (Some 0)
  unfolding order_numbers
  put-none n d z = subst (λ xs. PutIs (order_numbers 1 xs) o o (Some 0)) (nothing items (is.all ∙ sym d ∙ z)) (put-nothing o)
    where
      nothing : (xs : List Item) → length xs ≡ 0 → [] ≡ xs
      nothing [] e = refl
      nothing (x ∷ xs) e = absurd (omega (arith, e))

  pub put-no-room : (n : ℕ) → n ≡ size_of b → length o < 2 * n → PutIs (order_numbers 1 items) o o None
  put-no-room n d h = put-short (order_numbers 1 items) o (omega (arith, numbers-long, d))

  pub put-placed : (n : ℕ) → n ≡ size_of b → 2 * n ≤ length o → (order : List ℕ) → n ≤ length order → Orders b order → (out : List ℕ) →
      out ≡ front (order_numbers 1 (items_in b (take n order))) o → PutIs (order_numbers 1 items) o out (Some (2 * n))
  put-placed n d h order m g out e =
      put-fits (order_numbers 1 items) o out (2 * n) (omega (arith, numbers-long, d)) (omega (arith, numbers-long, d))
      (e ∙ ap (λ n. front (order_numbers 1 (items_in b (take n order))) o) d
      ∙ ap (λ xs. front (order_numbers 1 xs) o) (is.placed order (subst (λ n. n ≤ length order) d m) g))

-- a refused batch has no order
pub put-refused : (s trace report o after : List ℕ) (row line : ℕ) → row ≢ 0 → refusal row line ≡ audit_of s trace report → after ≡ o →
    PutIs (order_numbers 1 (order_of s trace report)) o after (Some 0)
unfolding order_numbers
put-refused s trace report o after row line h e k =
    let z : [] ≡ order_numbers 1 (order_of s trace report) =
    sym (ap (order_numbers 1) (order-none s trace report (λ v. h (ap (λ a. a.verdict) e ∙ v)))) in
    rw k (subst (λ t. PutIs t o o (Some 0)) z (put-nothing o))
