-- The items of a batch in arrays, and that the merge of the arrays is the merge of the batch.
use Rattle.std.proofs.Common.{◌≡◌, ℕ, zero, suc, ◌+◌, ◌-◌, ◌%◌, ◌≤◌, ◌<◌, min, Bool, true, false, not, eqb, ltb, List, [], ◌∷◌, map, length, get_or, take, drop, refl, sym, ap, subst, ◌∙◌, arith, length-append}
use Rattle.std.proofs.Math.Option.{none}
use Rattle.std.proofs.lemmas.List.{length-take, length-map, get_or-map, get_or-append-add, get_or-take}
use Rattle.std.proofs.Math.ListN.{get_or-append}
use borrow.Author.Tests.{ltb-true, ltb-false, ne_eqb}
use native.Mathlib.Nat.{mod-eq_of_lt}
use Rattle.basics.specs.Lists.{All}
use Rattle.basics.specs.Firsts.{firsts}
use Rattle.basics.specs.Scans.{FirstFrom}
use Rattle.basics.proofs.Lists.{mem-all}
use Rattle.basics.proofs.Firsts.{firsts_same, firsts-front, firsts-get_or, firsts-all, all_firsts}
use Rattle.basics.proofs.Scans.{one_place}
use Rattle.basics.proofs.Searches.{search-hit}
use Rattle.basics.proofs.Tests.{clash, by_bool, by_eq, eqb_yes, yes_eqb}
use Rattle.text.specs.Held.{no_of, of_at}
use Rattle.text.specs.declared.trace.Event.TheVariants.{Request, Response}
use Rattle.text.specs.declared.trace.Event.{Event}
use Rattle.ordering.specs.Merge.{merge_all}
use Rattle.ordering.specs.Positions.{slot, merge_of, over_front, order_in, counts_of}
use Rattle.ordering.specs.declared.Merged.{Merged}
use Rattle.ordering.proofs.Items.{Held, both, merge-items, whole-order}
use Rattle.model.specs.Audit.{left_over}
use Rattle.model.specs.Batch.{Batch, count_of, Node, ev, ln}
use Rattle.model.specs.Checks.{breaks}
use Rattle.model.specs.Nodes.{lane, rid, num, nodes}
use Rattle.model.proofs.Claims.{Counted, counted-mem, row7-lines}
use Rattle.model.proofs.Requests.{Named, events-named}
use Rattle.replay.specs.Held.{no_event, no_entry, node_at}
use Rattle.replay.specs.Judges.{Ready, Orders}
use Rattle.replay.specs.Promises.{lane_in, number_in, ItemIs, item_of, ItemsTo, Returns}
use Rattle.replay.specs.declared.orders.Items.{Items}
use Rattle.replay.proofs.Looking.{ready-formed}

-- what holds of all holds of each
all-at : {A : Type 0} (P : A → Type 0) (xs : List A) (i : ℕ) (d : A) → All P xs → i < length xs → P (get_or xs i d)
all-at P [] i d a h = absurd (omega arith)
all-at P (x ∷ xs) zero d a h = a.0
all-at P (x ∷ xs) (suc i) d a h = all-at P xs i d a.1 (omega arith)

module _ (b : Batch) where
  open b use {trace, ofs, log}

  -- ── the nodes of a batch by their places ──
  -- a node, past the last
  abbrev beyond : Node
  beyond = ev no_event

  abbrev count : ℕ
  count = length log + length trace

  nodes-length : length (nodes b) ≡ count
  nodes-length = length-append (map ln log) (map ev trace) ∙ (λ i. length-map log ln i + length-map trace ev i)

  node-is : (i : ℕ) → i < count → get_or (nodes b) i beyond ≡ node_at b i
  node-is i h = by_bool (ltb i (length log))
      (λ e.
      let l = ltb-true i (length log) e in
      rw e
      (get_or-append (map ln log) (map ev trace) beyond i (omega (arith, length-map log ln)) ∙ get_or-map ln log i no_entry beyond l))
      (λ e.
      let l = ltb-false i (length log) e in
      let p : i ≡ length (map ln log) + (i - length log) = omega (arith, length-map log ln) in
      rw e
      (ap (λ j. get_or (nodes b) j beyond) p ∙ get_or-append-add (map ln log) (map ev trace) (i - length log) beyond
      ∙ get_or-map ev trace (i - length log) no_event beyond (omega arith)))

  module _ (known : ℕ → Bool) (ready : Ready known b) where
    counted : (i : ℕ) → i < length log → Counted (count_of ofs) (get_or log i no_entry)
    counted i h = all-at (Counted (count_of ofs)) log i no_entry (row7-lines b ready.none_to_7.2).0 h

    -- a request with an `of` line has its slot
    slotted : (r s : ℕ) → Named b r → FirstFrom (λ i. eqb (of_at ofs i).rid r) 0 (length ofs) s → s < length ofs
    slotted r s x f = by_bool (ltb s (length ofs)) (λ h. ltb-true s (length ofs) h) (λ h. clash
        (let l = ltb-false s (length ofs) h in
        let d : eqb x.0.rid r ≡ false = mem-all (λ y. eqb y.rid r ≡ false)
        (subst (All (λ y. eqb y.rid r ≡ false)) (firsts-get_or ofs no_of)
        (all_firsts (λ y. eqb y.rid r ≡ false) (of_at ofs) (length ofs) (λ i k. f.skipped i (omega arith) (omega arith) k))) x.1 in
        let e : eqb x.0.rid r ≡ true = eqb_yes x.2 in cc))

    -- the count of a request stands in its slot
    slot-count : (r s : ℕ) → FirstFrom (λ i. eqb (of_at ofs i).rid r) 0 (length ofs) s → s < length ofs →
        count_of ofs r ≡ (of_at ofs s).count
    slot-count r s f l =
        ap (λ xs. count_of xs r) (sym (firsts-get_or ofs no_of))
        ∙ search-hit (λ (c : Unit {0}) xs. count_of xs r) (λ x. eqb x.rid r) (λ c x. x.count) (λ c x. c) (λ c x xs. refl) (length ofs) s
        (of_at ofs) tt f l

    small : (s : ℕ) → s < length ofs → (of_at ofs s).count ≤ 256
    small s l = all-at (λ x. x.count ≤ 256) ofs s no_of ready.counts l

    -- ── each node is in a lane of the 17, has a slot of the 64 and a number that fits ──
    pub record Fine (x : Node) : Type 0 where
      pub in_lane : lane x ≡ lane_in x % 17
      pub named_in : Named b (rid x)
      pub numbered : (s : ℕ) → FirstFrom (λ i. eqb (of_at ofs i).rid (rid x)) 0 (length ofs) s → s < length ofs →
          num (count_of ofs) x ≡ number_in (of_at ofs s).count x

    fine-line : (i : ℕ) → i < length log → Fine (ln (get_or log i no_entry))
    fine-line i h =
        let c = counted i h in
        let o : (get_or log i no_entry).op.object < 16 = all-at (λ l. l.op.object < 16) log i no_entry ready.objects h in
        record {
          in_lane = omega arith;
          named_in = counted-mem ofs (get_or log i no_entry).rid (omega (arith, c.low, c.high));
          numbered = λ s f l. omega (arith, c.high, slot-count (get_or log i no_entry).rid s f l, small s l);
        }

    fine-event : (e : Event) → Named b (rid (ev e)) → Fine (ev e)
    fine-event (Request r prog x y) n = record { in_lane = refl; named_in = n; numbered = λ s f l. refl }
    fine-event (Response r status value) n = record {
      in_lane = refl;
      named_in = n;
      numbered = λ s f l. omega (arith, slot-count r s f l, small s l);
    }

    fine : (i : ℕ) → i < count → Fine (node_at b i)
    fine i h = by_bool (ltb i (length log))
        (λ e. rw e (fine-line i (ltb-true i (length log) e)))
        (λ e.
        let l = ltb-false i (length log) e in
        rw e (fine-event (get_or trace (i - length log) no_event)
        (all-at (λ e. Named b (rid (ev e))) trace (i - length log) no_event (events-named b (ready-formed known b ready)) (omega arith))))

    module _ (x : Items) (h : ItemsTo b count x) where
      abbrev place : ℕ → ℕ
      place i = get_or x.request i 0

      module _ (i : ℕ) (l : i < length (nodes b)) where
        within : i < count
        within = omega (arith, nodes-length)

        is : ItemIs ofs (node_at b i) (item_of x i)
        is = h.items i within

        placed : place i < length ofs
        placed = slotted _ (place i) (fine i within).named_in is.place

        -- in terms of the list of nodes
        placed_at : FirstFrom (λ j. eqb (of_at ofs j).rid (rid (get_or (nodes b) i beyond))) 0 (length ofs) (place i)
        placed_at = rw (node-is i within) is.place

        slot_at : slot x.request 64 i ≡ place i
        slot_at = mod-eq_of_lt (omega (arith, placed, is.few))

      held : (front : List ℕ) → front ≡ take count x.lane → Held lane rid (num (count_of ofs)) (nodes b) beyond front x.request x.number
      held front e = record {
        lane_at = λ i l.
            let w = within i l in
            ap lane (node-is i w) ∙ (fine i w).in_lane ∙ ap (λ x. x % 17)
            (sym (ap (λ t. get_or t i 0) e ∙ get_or-take count x.lane i 0 w ∙ (is i l).lane_is));
        number_at = λ i l.
            let w = within i l in
            ap (num (count_of ofs)) (node-is i w) ∙ (fine i w).numbered (place i) (is i l).place (placed i l)
            ∙ sym (is i l).number_is;
        one_request = λ i j u v p.
            slot_at i u
            ∙ one_place _ (length ofs) (place i) (place j) (placed_at i u)
            (subst (λ r. FirstFrom (λ k. eqb (of_at ofs k).rid r) 0 (length ofs) (place j)) (sym p) (placed_at j v)) (placed i u) (placed j v)
            ∙ sym (slot_at j v);
        one_slot = λ i j u v p.
            let s : place i ≡ place j = sym (slot_at i u) ∙ p ∙ slot_at j v in
            let c : (of_at ofs (place i)).rid ≡ rid (get_or (nodes b) i beyond) = yes_eqb ((placed_at i u).found (placed i u)).1 in
            let d : (of_at ofs (place j)).rid ≡ rid (get_or (nodes b) j beyond) = yes_eqb ((placed_at j v).found (placed j v)).1 in
            sym c ∙ ap (λ q. (of_at ofs q).rid) s ∙ d;
      }

left-breaks : (xs : List ℕ) (f : ℕ → Node) → breaks (not (eqb (length xs) 0)) 0 ≡ left_over (map f xs)
left-breaks [] f = refl
left-breaks (x ∷ xs) f = rw (ne_eqb (suc (length xs)) 0 (λ e. omega arith))

none-breaks : (k : ℕ) → breaks (not (eqb k 0)) 0 ≡ none → k ≡ 0
none-breaks k e = by_eq k 0 (λ p _. p) (λ _ d. let e' = rw d at e in clash (cc))

-- a list mapped, by its places
map-firsts : {A B : Type 0} (f : A → B) (g : ℕ → A) (n : ℕ) → map f (firsts g n) ≡ firsts (λ i. f (g i)) n
unfolding firsts
map-firsts f g zero = refl
map-firsts f g (suc n) = rw (firsts-front g n, firsts-front (λ i. f (g i)) n) (ap (λ t. f (g 0) ∷ t) (map-firsts f (λ i. g (suc i)) n))

module _ (b : Batch) (low : length b.trace ≤ 128) (few : length b.log ≤ 1024)
    (x : Items) (h : ItemsTo b (length b.log + length b.trace) x)
    (front out : List ℕ) (e : front ≡ take (length b.log + length b.trace) x.lane) (o : length out ≡ 1152) (r : Merged)
    (c : r ≡ counts_of front x.request x.number out) where
  abbrev total : ℕ
  total = length b.log + length b.trace

  -- the item at a place of the list
  abbrev item : ℕ → Node
  item i = get_or (nodes b) i (ev no_event)

  -- the merge of the arrays
  abbrev places : List ℕ × List ℕ
  places = merge_of front x.request x.number total

  merged-all : min (length front) (min (length x.request) (min (length x.number) (min (length out) 1152))) ≡ total
  merged-all =
      let l : length front ≡ total = ap length e ∙ length-take total x.lane ∙ omega (arith, h.lane_room) in
      omega (arith, h.request_room, h.number_room)

  left_is : r.left ≡ length places.1
  left_is = ap (λ x. x.left) c ∙ ap (λ k. length (merge_of front x.request x.number k).1) merged-all

  -- is that of the batch
  merge-is : (known : ℕ → Bool) → Ready known b → merge_all lane rid (num (count_of b.ofs)) (nodes b) ≡ both item places
  merge-is known ready =
      merge-items lane rid (num (count_of b.ofs)) (nodes b) (ev no_event) front x.request x.number (held b known ready x h front e)
      ∙ ap (λ k. both item (merge_of front x.request x.number k)) (nodes-length b)

  pub merge-returns : Returns b (not (eqb r.left 0))
  merge-returns known ready =
      ap (λ x. breaks (not (eqb x 0)) 0) left_is
      ∙ left-breaks places.1 item
      ∙ sym (ap (λ x. left_over x.1) (merge-is known ready))

  -- where it leaves nothing over, its places stand in the front of the array
  pub merge-orders : (after : List ℕ) → after ≡ order_in front x.request x.number out → Orders b after
  unfolding Orders
  merge-orders after d known ready z =
      let xs = places.0 in
      let w = whole-order front x.request x.number total (sym left_is ∙ none-breaks r.left (merge-returns known ready ∙ z)) in
      let s : after ≡ over_front xs out = d ∙ ap (λ k. over_front (merge_of front x.request x.number k).0 out) merged-all in
      let below : (k : ℕ) → k < total → get_or xs k 0 < total = λ k l.
      firsts-all (λ i. i < total) (λ k. get_or xs k 0) (length xs) k
      (subst (All (λ i. i < total)) (sym (firsts-get_or xs 0)) w.1) (omega (arith, w.0)) in
      firsts_same _ (λ k. item (get_or xs k 0)) total
      (λ k l.
      ap (λ a. node_at b (get_or a k 0)) s
      ∙ ap (node_at b) (get_or-append xs (drop (length xs) out) 0 k (omega (arith, w.0)))
      ∙ sym (node-is b (get_or xs k 0) (below k l)))
      ∙ ap (firsts (λ k. item (get_or xs k 0))) (sym w.0)
      ∙ sym (map-firsts item (λ k. get_or xs k 0) (length xs))
      ∙ ap (map item) (firsts-get_or xs 0)
      ∙ sym (ap (λ x. x.0) (merge-is known ready))
