-- `put_printed` meets its contract: after each piece, what is left to write.
use Rattle.std.proofs.Common.{◌≡◌, ℕ, ◌+◌, ◌-◌, ◌≤◌, min, List, [], ◌++◌, length, take, drop, Option, sym, append-nil, arith, length-append}
use Rattle.lines.specs.Put.{written_of, PutIs}
use Rattle.lines.proofs.Puts.{put-short, put-fits}
use Rattle.lines.proofs.Writing.{Writing, lent, writing_start, writing-as, writing-room, writing-length, writing-done, writing-put-first, writing-put}
use Rattle.writing.specs.Order.{items_text}
use Rattle.verifier.specs.Printed.{audited_text}
use Rattle.verifier.proofs.printing.put_printed.Goals as goal

-- a text of two pieces: where the first was written, and the second
module _ (p q o : List ℕ) (h : length p + length q ≤ length o) (ys : List ℕ) (r : Option ℕ) (n : ℕ) (d : PutIs p o ys r) (e : n ≡ written_of r) where
  one : Writing (p ++ q) o ys n q
  one = writing-put-first p q ys r n (writing_start (p ++ q) o (omega (arith, h, length-append p q))) d e

  two : (zs : List ℕ) (s : Option ℕ) (m : ℕ) → PutIs q (take (length ys - n) (drop n ys)) zs s → m ≡ written_of s →
      Writing (p ++ q) o (lent ys n zs) (n + m) []
  two zs s m = writing-put q [] zs s m (writing-as (sym (append-nil q)) one)

  within : n ≤ length ys
  within = omega (arith, writing-room one)

pub returns-then-out-audited_width-clause-put_is : goal.returns-then-out-audited_width-clause-put_is
returns-then-out-audited_width-clause-put_is c =
    let a = c.args in
    put-short _ _ (omega (
      arith,
      length-append (audited_text a.a) (items_text a.items.now (min a.n 1152)),
      c.order_width.ensures.value,
      c.audited_width.ensures.value,
    ))

pub slice_bounds-put_order-count : goal.slice_bounds-put_order-count
slice_bounds-put_order-count c =
    within _ (items_text c.args.items.now (min c.args.n 1152)) _ (omega (arith, c.order_width.ensures.value, c.audited_width.ensures.value))
    _ _ _ c.put_audited.ensures c.unwrap_or-at.ensures

pub slice_bounds-put_order-start : goal.slice_bounds-put_order-start
slice_bounds-put_order-start c =
    within _ (items_text c.args.items.now (min c.args.n 1152)) _ (omega (arith, c.order_width.ensures.value, c.audited_width.ensures.value))
    _ _ _ c.put_audited.ensures c.unwrap_or-at.ensures

pub overflow_add-result : goal.overflow_add-result
overflow_add-result c =
    let w = two _ _ _ (omega (arith, c.order_width.ensures.value, c.audited_width.ensures.value))
    _ _ _ c.put_audited.ensures c.unwrap_or-at.ensures _ _ _ c.put_order.ensures c.unwrap_or.ensures in
    omega (arith, writing-room w, writing-length w)

pub returns-clause-put_is : goal.returns-clause-put_is
returns-clause-put_is c =
    let w = two _ _ _ (omega (arith, c.order_width.ensures.value, c.audited_width.ensures.value))
    _ _ _ c.put_audited.ensures c.unwrap_or-at.ensures _ _ _ c.put_order.ensures c.unwrap_or.ensures in
    let d = writing-done w (omega arith) in
    put-fits _ _ _ _ w.room d.0 d.1
