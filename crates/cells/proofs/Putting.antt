-- Laws of a put: stores that hold contents hold those with the key put. Stores that hold nothing.
use Rattle.std.proofs.Common.{◌≡◌, ℕ, zero, suc, ◌+◌, ◌-◌, ◌≤◌, ◌<◌, Bool, true, false, cond, ◌&&◌, eqb, get_or, set, length, replicate, List, Option, Some, None, refl, sym, ap, ◌∙◌, subst, add-one, arith, length-set, get_or-set_same, get_or-set_other, eqb-true, lt-ltb, le-ltb}
use lib.ListN.{length-replicate, get_or-replicate}
use borrow.Author.Tests.{eqb-false}
use Rattle.basics.proofs.Tests.{by_bool, and-true}
use Rattle.cells.specs.declared.chains.Cell.{Cell}
use Rattle.cells.specs.declared.stores.Stores.{Stores}
use Rattle.cells.specs.Rows.{is_of, cell_at, is_at}
use Rattle.cells.specs.Chains.{last, bucket_of, bucket_at, in_bucket, walk, cell_of}
use Rattle.cells.specs.Stores.{Contents, Holds, PutsInto, cell_in, place_of, put_in, fits, added, head_of}
use Rattle.cells.proofs.Last.{last-next, last-le, last-true, last-same}
use Rattle.cells.proofs.RowLaws.{SameKeys, same_at, same-bucket, same-bucket-at, link-same, cell-same, cell-other, new-same, changed-same}
use Rattle.cells.proofs.Looking.{at-keys, place-is, place-le, found, held-none}

-- cells of the same keys have the same places, and are on the same chains
module _ {n : ℕ} {cells' cells : List Cell} (s : SameKeys n cells' cells) where
  same-last : (b m : ℕ) → m ≤ n → last (in_bucket cells' b) m ≡ last (in_bucket cells b) m
  same-last b m g = last-same (in_bucket cells' b) (in_bucket cells b) m (λ i k. same-bucket s i (omega arith) b)

  same-link : (i : ℕ) → i < n → last (in_bucket cells' (bucket_at cells' i)) i ≡ last (in_bucket cells (bucket_at cells i)) i
  same-link i k = ap (λ b. last (in_bucket cells' b) i) (same-bucket-at s i k) ∙ same-last (bucket_at cells i) i (omega arith)

  same_place : (m object key : ℕ) → m ≤ n → place_of cells' m object key ≡ place_of cells m object key
  same_place m object key g =
      last-same (is_at cells' object key) (is_at cells object key) m (λ i k. same_at s i (omega arith) object key)

module _ {s : Stores} {c : Contents} (h : Holds s c) (object key value : ℕ) where
  abbrev b : ℕ
  b = bucket_of object key

  -- a put of a key that holds x
  into : {s' : Stores} (x : Option ℕ) → c object key ≡ x → s'.used ≡ s.used + added s.used x
      → Holds s' (cond (fits s.used x) (put_in c object key value) c) → PutsInto s.used c object key value s'
  into x e d k = record { count = rw e d; holds = rw e k }

  -- ── a held key, in the cell q ──
  module _ (q : ℕ) (e : suc q ≡ place_of s.cells s.used object key) where
    abbrev changed : List Cell
    changed = set s.cells q (record (cell_at s.cells q) { value = value })

    inside : q < length s.cells
    inside = let l = place-le h object key in omega (arith, h.few, h.cells_room)

    k : SameKeys s.used changed s.cells
    k = changed-same s.cells q (record (cell_at s.cells q) { value = value }) s.used inside refl

    -- q is the cell of no other key
    not_there : (o m : ℕ) → (eqb object o && eqb key m) ≡ false → suc q ≡ place_of s.cells s.used o m → ⊥
    not_there o m f d =
        let n = s.used in
        let t : is_at s.cells object key (place_of s.cells n object key - 1) ≡ true = last-true (is_at s.cells object key) n (omega arith) in
        let u : is_at s.cells o m (place_of s.cells n o m - 1) ≡ true = last-true (is_at s.cells o m) n (omega arith) in
        let z : place_of s.cells n o m - 1 ≡ place_of s.cells n object key - 1 = omega arith in
        let v : (eqb object o && eqb key m) ≡ true =
        sym (at-keys s.cells object key _ t o m) ∙ ap (is_at s.cells o m) (sym z) ∙ u in
        let w : ◌≡◌ {A = Bool} true false = sym v ∙ f in let x : ◌≡◌ {A = ℕ} 0 1 = cc in omega arith

    other-cell : (m : ℕ) → (suc q ≡ m → ⊥) → cell_in s.cells m ≡ cell_in changed m
    other-cell zero d = refl
    other-cell (suc j) d = ap (λ x. Some x.value) (sym (cell-other s.cells q _ j (λ i. d (ap suc (sym i)))))

    changed-cells : (o m : ℕ) → put_in c object key value o m ≡ cell_in changed (place_of changed s.used o m)
    changed-cells o m =
        let p = same_place k s.used o m (omega arith) in
        by_bool (eqb object o && eqb key m)
        (λ t. let both = and-true (eqb object o) (eqb key m) t in
        let x : object ≡ o = eqb-true _ _ both.0 in
        let y : key ≡ m = eqb-true _ _ both.1 in
        let z : suc q ≡ place_of changed s.used o m = e ∙ (λ j. place_of s.cells s.used (x j) (y j)) ∙ sym p in
        rw t (ap (λ x. Some x.value) (sym (cell-same s.cells q _ inside)) ∙ ap (cell_in changed) z))
        (λ t. rw t (h.cells o m ∙ other-cell (place_of s.cells s.used o m) (not_there o m t) ∙ ap (cell_in changed) (sym p)))

    changed-into : PutsInto s.used c object key value (record s { cells = changed })
    changed-into =
        into (Some (cell_at s.cells q).value) (h.cells object key ∙ ap (cell_in s.cells) (sym e)) (omega arith)
        (record {
          cells_room = length-set s.cells q _ ∙ h.cells_room;
          heads_room = h.heads_room;
          few = h.few;
          head = λ a l. h.head a l ∙ sym (same-last k a s.used (omega arith));
          link = λ i l. link-same k i l ∙ h.link i l ∙ sym (same-link k i l);
          cells = changed-cells;
        })

  -- ── a new key, in a new cell ──
  module _ (z : c object key ≡ None) (g : s.used < 2048) where
    abbrev new : Cell
    new = record { object = object; key = key; value = value; link = get_or s.heads b 0 }

    abbrev cells' : List Cell
    cells' = set s.cells s.used new

    abbrev heads' : List ℕ
    heads' = set s.heads b (s.used + 1)

    at-new : cell_at cells' s.used ≡ new
    at-new = cell-same s.cells s.used new (omega (arith, h.cells_room))

    k' : SameKeys s.used cells' s.cells
    k' = new-same s.cells s.used new

    new-last : (a : ℕ) → last (in_bucket cells' a) (s.used + 1) ≡ cond (eqb b a) (s.used + 1) (last (in_bucket s.cells a) s.used)
    new-last a =
        last-next (in_bucket cells' a) s.used
        ∙ (λ j. cond (eqb (bucket_of (at-new j).object (at-new j).key) a) (s.used + 1) (same-last k' a s.used (omega arith) j))

    new-head : (a : ℕ) → a < 1016 → get_or heads' a 0 ≡ last (in_bucket cells' a) (s.used + 1)
    new-head a l =
        by_bool (eqb b a)
        (λ t. ap (λ m. get_or heads' m 0) (sym (eqb-true b a t))
        ∙ get_or-set_same s.heads b (s.used + 1) 0 (omega (arith, h.heads_room)) ∙ sym (new-last a ∙ rw t))
        (λ t. get_or-set_other s.heads b a (s.used + 1) 0 (λ d. eqb-false b a t (sym d)) ∙ h.head a l ∙ sym (new-last a ∙ rw t))

    new-links : (i : ℕ) → i < s.used + 1 → (cell_at cells' i).link ≡ last (in_bucket cells' (bucket_at cells' i)) i
    new-links i l =
        by_bool (eqb i s.used)
        (λ t. subst (λ m. (cell_at cells' m).link ≡ last (in_bucket cells' (bucket_at cells' m)) m) (sym (eqb-true i s.used t))
        (ap (λ x. x.link) at-new ∙ h.head b (omega arith)
        ∙ sym (ap (λ x. last (in_bucket cells' (bucket_of x.object x.key)) s.used) at-new ∙ same-last k' b s.used (omega arith))))
        (λ t. let d = eqb-false i s.used t in
        let m : i < s.used = omega arith in link-same k' i m ∙ h.link i m ∙ sym (same-link k' i m))

    old-cell : (m : ℕ) → m ≤ s.used → cell_in s.cells m ≡ cell_in cells' m
    old-cell zero l = refl
    old-cell (suc j) l = ap (λ x. Some x.value) (sym (cell-other s.cells s.used new j (λ e. absurd (omega arith))))

    new-cells : (o m : ℕ) → put_in c object key value o m ≡ cell_in cells' (place_of cells' (s.used + 1) o m)
    new-cells o m =
        let p = place_of s.cells s.used o m in
        let f : place_of cells' (s.used + 1) o m ≡ cond (eqb object o && eqb key m) (s.used + 1) p =
        last-next (is_at cells' o m) s.used ∙ (λ j. cond (is_of (at-new j) o m) (s.used + 1) (same_place k' s.used o m (omega arith) j)) in
        by_bool (eqb object o && eqb key m)
        (λ t. let d : place_of cells' (s.used + 1) o m ≡ suc s.used = f ∙ rw t (add-one s.used) in
        rw t (ap (λ x. Some x.value) (sym at-new) ∙ ap (cell_in cells') (sym d)))
        (λ t. let d : place_of cells' (s.used + 1) o m ≡ p = f ∙ rw t in
        rw t (h.cells o m ∙ old-cell p (last-le (is_at s.cells o m) s.used) ∙ ap (cell_in cells') (sym d)))

    new-into : PutsInto s.used c object key value (record { cells = cells'; heads = heads'; used = s.used + 1 })
    new-into =
        into None z (rw (lt-ltb s.used 2048 g))
        (rw (lt-ltb s.used 2048 g)
        (record {
          cells_room = length-set s.cells s.used new ∙ h.cells_room;
          heads_room = length-set s.heads b (s.used + 1) ∙ h.heads_room;
          few = omega arith;
          head = new-head;
          link = new-links;
          cells = new-cells;
        }))

  -- ── as the code does it: r is the cell that the walk from the bucket's head finds ──
  module _ (r : Option ℕ) (e : r ≡ cell_of (walk s.cells object key 2048 (head_of s object key))) where
    pub put-changed : (q : ℕ) → r ≡ Some q → PutsInto s.used c object key value (record s { cells = set s.cells q (record (cell_at s.cells q) { value = value }) })
    put-changed q d =
        let l = place-le h object key in
        changed-into q (place-is _ q (omega (arith, h.few)) (sym d ∙ e ∙ ap cell_of (found h object key)))

    module _ (d : r ≡ None) where
      unheld : c object key ≡ None
      unheld = held-none h object key r e d

      pub put-full : 2048 ≤ s.used → PutsInto s.used c object key value s
      put-full g = into None unheld (rw (le-ltb s.used 2048 g) (omega arith)) (rw (le-ltb s.used 2048 g) h)

      pub put-added : s.used < 2048 → (a w : ℕ) → a ≡ b → w ≡ get_or s.heads a 0 → PutsInto s.used c object key value
          (record {
            cells = set s.cells s.used (record { object = object; key = key; value = value; link = w });
            heads = set s.heads a (s.used + 1);
            used = s.used + 1;
          })
      put-added g a w x y = rw (y, x) (new-into unheld g)

-- ── at the start, and the same contents ──
-- cleared heads, and cells of any kind
pub blank : (cells : List Cell) → length cells ≡ 2048 →
    Holds (record { cells = cells; heads = replicate 1016 0; used = 0 }) (λ object key. None)
unfolding last
blank cells r =
    record {
      cells_room = r;
      heads_room = length-replicate {A = ℕ} 1016 0;
      few = omega arith;
      head = λ b k. get_or-replicate 1016 b 0 0 k;
      link = λ i k. absurd (omega arith);
      cells = λ o k. refl;
    }

-- contents that are the same key by key
pub holds_same : {s : Stores} {c d : Contents} → ((object key : ℕ) → d object key ≡ c object key) → Holds s c → Holds s d
holds_same e h =
    record {
      cells_room = h.cells_room;
      heads_room = h.heads_room;
      few = h.few;
      head = h.head;
      link = h.link;
      cells = λ o k. e o k ∙ h.cells o k;
    }
