-- The lines of an order are those of its numbers, which stand in front of an array.
use Prim.Native.Nat.{ℕ, suc, ◌*◌, ◌+◌, ◌<◌}
use mathlib.Core.List.{List, [], ◌∷◌, ◌++◌}
use mathlib.Core.Logic.{◌≢◌}
use mathlib.Core.Path.{◌≡◌, refl, sym, ap, ap₂, ◌∙◌}
use native.Mathlib.Omega.{arith}
use lib.ListN.{length, drop, get_or}
use Rattle.basics.specs.Lists.{All}
use Rattle.basics.specs.Firsts.{firsts}
use Rattle.basics.proofs.Firsts.{firsts_same, firsts-front}
use Rattle.lines.specs.Put.{front}
use Rattle.text.specs.Written.{lines_text}
use Rattle.writing.specs.Order.{item_text, item_at, items_text}
use Rattle.writing.proofs.OrderWriting.{event-text, operation-text}
use Rattle.model.specs.PlainRun.{Item, event, operation}
use Rattle.verifier.specs.Order.{order_numbers, order_text}

-- the number of an operation is not 0, which would be taken for an event
abbrev pub NotZero : Item → Type 0
NotZero (event e) = Unit {0}
NotZero (operation r k) = k ≢ 0

pub numbers-length : (n : ℕ) (xs : List Item) → length (order_numbers n xs) ≡ 2 * length xs
unfolding order_numbers
numbers-length n [] = refl
numbers-length n (event e ∷ xs) = omega (arith, numbers-length (suc n) xs)
numbers-length n (operation r k ∷ xs) = omega (arith, numbers-length n xs)

-- behind the first item stand the others
module _ (id num : ℕ) (a : List ℕ) where
  item-behind : (i : ℕ) → item_at (id ∷ num ∷ a) (suc i) ≡ item_at a i
  item-behind i =
      let p : 2 * suc i ≡ suc (suc (2 * i)) = omega arith in
      let q : 2 * suc i + 1 ≡ suc (suc (2 * i + 1)) = omega arith in
      λ j. record { id = get_or (id ∷ num ∷ a) (p j) 0; num = get_or (id ∷ num ∷ a) (q j) 0 }

  items-next : (n : ℕ) → items_text (id ∷ num ∷ a) (suc n) ≡ item_text (record { id = id; num = num }) ++ items_text a n
  unfolding items_text lines_text
  items-next n =
      ap (lines_text item_text)
      (firsts-front (item_at (id ∷ num ∷ a)) n
      ∙ ap (λ t. record { id = id; num = num } ∷ t)
      (firsts_same (λ i. item_at (id ∷ num ∷ a) (suc i)) (item_at a) n (λ (i : ℕ). λ (k : i < n). item-behind i)))

items-lines : (n : ℕ) (xs : List Item) (a : List ℕ) → All NotZero xs → items_text (order_numbers n xs ++ a) (length xs) ≡ order_text n xs
unfolding order_numbers order_text items_text lines_text firsts
items-lines n [] a h = refl
items-lines n (event e ∷ xs) a h =
    items-next n 0 (order_numbers (suc n) xs ++ a) (length xs)
    ∙ ap₂ (λ s t. s ++ t) (sym (event-text (record { id = n; num = 0 }) refl)) (items-lines (suc n) xs a h.1)
items-lines n (operation r k ∷ xs) a h =
    items-next r k (order_numbers n xs ++ a) (length xs)
    ∙ ap₂ (λ s t. s ++ t) (sym (operation-text (record { id = r; num = k }) h.0)) (items-lines n xs a h.1)

pub order-lines : (xs : List Item) (o : List ℕ) → All NotZero xs → items_text (front (order_numbers 1 xs) o) (length xs) ≡ order_text 1 xs
unfolding front
order-lines xs o h = items-lines 1 xs (drop (length (order_numbers 1 xs)) o) h
