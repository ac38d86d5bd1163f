-- The items of an order as they stand in an array.
use Rattle.std.proofs.Common.{◌≡◌, ℕ, zero, suc, ◌+◌, ◌*◌, ◌≤◌, Bool, cond, List, ◌∷◌, length, take, drop, sym, refl, ap, arith, get_or-drop, get_or-take, eq-eqb, ne_eqb}
use Rattle.basics.specs.Firsts.{firsts}
use Rattle.basics.proofs.Firsts.{firsts_same, firsts-front}
use Rattle.text.specs.Written.{lines_text}
use Rattle.writing.specs.Order.{event_item, operation_item, item_text, item_of, item_at, items_text, rows}
use Rattle.writing.specs.declared.orders.Item.{Item}

-- the line of an item
module _ (x : Item) where
  pub event-text : x.num ≡ 0 → event_item x.id ≡ item_text x
  unfolding item_text
  event-text e = sym (ap (λ (t : Bool). cond t (event_item x.id) (operation_item x.id x.num)) (eq-eqb x.num 0 e))

  pub operation-text : (x.num ≡ 0 → ⊥) → operation_item x.id x.num ≡ item_text x
  unfolding item_text
  operation-text h = sym (ap (λ (t : Bool). cond t (event_item x.id) (operation_item x.id x.num)) (ne_eqb x.num 0 h))

-- the first of the rows
pub take-rows : (items : List ℕ) (m n : ℕ) → m ≤ n → take m (rows items n) ≡ rows items m
take-rows items zero n h = refl
take-rows items (suc m) zero h = absurd (omega arith)
take-rows items (suc m) (suc n) h = ap (λ l. take 2 items ∷ l) (take-rows (drop 2 items) m n (omega arith))

pub length-rows : (items : List ℕ) (n : ℕ) → length (rows items n) ≡ n
length-rows items zero = refl
length-rows items (suc n) = ap suc (length-rows (drop 2 items) n)

item-first : (items : List ℕ) → item_of (take 2 items) ≡ item_at items 0
item-first items = rw (get_or-take 2 items 0 0 (omega arith), get_or-take 2 items 1 0 (omega arith)) refl

item-next : (items : List ℕ) (i : ℕ) → item_at (drop 2 items) i ≡ item_at items (suc i)
item-next items i =
    let e : 2 + 2 * i ≡ 2 * suc i = omega arith in
    let f : 2 + (2 * i + 1) ≡ 2 * suc i + 1 = omega arith in
    rw (get_or-drop 2 items (2 * i) 0, get_or-drop 2 items (2 * i + 1) 0, e, f) refl

-- the rows' lines are the items'
pub rows-text : (items : List ℕ) (n : ℕ) → lines_text (λ r. item_text (item_of r)) (rows items n) ≡ items_text items n
unfolding items_text lines_text firsts
rows-text items zero = refl
rows-text items (suc n) =
    rw (
      item-first items,
      rows-text (drop 2 items) n,
      firsts_same (item_at (drop 2 items)) (λ i. item_at items (suc i)) n (λ i h. item-next items i),
      firsts-front (item_at items) n,
    ) refl
