-- `fill_numbers` meets its contract.
use Rattle.std.proofs.Common.{◌≡◌, ℕ, ◌+◌, ◌-◌, ◌<◌, ◌≤◌, List, ◌∷◌, length, get_or, take, drop, ap, arith, length-append, length-drop, rules}
use Rattle.lines.specs.Decimal.{decimal}
use Rattle.lines.specs.LineText.{separator_of, numbers_text}
use Rattle.lines.specs.Put.{front}
use Rattle.lines.proofs.LineTexts.{numbers-next, numbers-done}
use Rattle.lines.proofs.Writing.{Writing, lent, writing-as, writing-length, writing-room, writing-byte, writing-done, writing-part}
use Rattle.std.proofs.lemmas.List.{take_rest}
use Rattle.lines.proofs.writer.fill_numbers.Goals as goal

module _ {o out : List ℕ} {at i : ℕ} (vs : List ℕ) (h : i < length vs) (w : Writing (numbers_text vs) o out at (numbers_text (drop i vs))) where
  -- there is room for number i
  number-room : length (decimal (get_or vs i 0)) ≤ length (take (length out - at) (drop at out))
  number-room =
      rw (take_rest out at, length-drop at out)
      (omega (arith, simp length-append at (writing-room (writing-as (numbers-next vs i h) w))))

  -- where it was written, what stands behind it and the rest are left
  number-written : (ys : List ℕ) (n : ℕ) → n ≡ length (decimal (get_or vs i 0)) →
      ys ≡ front (decimal (get_or vs i 0)) (take (length out - at) (drop at out)) →
      Writing (numbers_text vs) o (lent out at ys) (at + n) (separator_of (i + 1) (length vs) ∷ numbers_text (drop (i + 1) vs))
  number-written ys n e f = writing-part _ _ ys n (writing-as (numbers-next vs i h) w) f e

pub fill_number-at-requires : goal.fill_number-at-requires
fill_number-at-requires c = number-room _ (search rules) c.loop-i.invariant

pub overflow_add-at : goal.overflow_add-at
overflow_add-at c =
    let f = c.fill_number-at in
    let w = number-written _ (search rules) c.loop-i.invariant _ _ f.ensures.value f.ensures.out_after in
    omega (arith, writing-room w, writing-length w)

pub bounds-out-at : goal.bounds-out-at
bounds-out-at c =
    let f = c.fill_number-at in
    let w = number-written _ (search rules) c.loop-i.invariant _ _ f.ensures.value f.ensures.out_after in
    omega (arith, writing-room w)

pub overflow_add-at-in-loop-i : goal.overflow_add-at-in-loop-i
overflow_add-at-in-loop-i c =
    let f = c.fill_number-at in
    let w = number-written _ (search rules) c.loop-i.invariant _ _ f.ensures.value f.ensures.out_after in
    omega (arith, writing-room w, writing-length w)

pub loop-i-preserved : goal.loop-i-preserved
loop-i-preserved c =
    let f = c.fill_number-at in
    let w = number-written _ (search rules) c.loop-i.invariant _ _ f.ensures.value f.ensures.out_after in
    rw c.separator.ensures (writing-byte _ _ w)

pub returns : goal.returns
returns c =
    let d = writing-done c.loop-i.invariant (ap length (numbers-done c.args.numbers.now c.loop-i.i (search rules))) in
    record { value = d.0; out_after = d.1 }
