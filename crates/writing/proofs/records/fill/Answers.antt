-- `fill` meets its contract.
use Rattle.std.proofs.Common.{◌≡◌, ℕ, Option, ◌+◌, ◌-◌, ◌<◌, List, length, get_or, take, drop, ap, arith, rules}
use Rattle.lines.specs.Put.{written_of, PutIs}
use Rattle.lines.proofs.Writing.{Writing, lent, writing-as, writing-room, writing-put, writing-done, writing-length}
use Rattle.text.specs.Written.{lines_text}
use Rattle.writing.proofs.LineLists.{lines-next, lines-done}
use Rattle.writing.proofs.records.fill.Goals as goal

-- where a record was written, those behind it are left
record-written : {A : Type 0} {o out : List ℕ} {at i : ℕ} (f : A → List ℕ) (xs : List A) (x : A) (ys : List ℕ) (r : Option ℕ) (n : ℕ) →
    Writing (lines_text f xs) o out at (lines_text f (drop i xs)) → i < length xs → x ≡ get_or xs i x →
    PutIs (f x) (take (length out - at) (drop at out)) ys r → n ≡ written_of r →
    Writing (lines_text f xs) o (lent out at ys) (at + n) (lines_text f (drop (i + 1) xs))
record-written {i = i} f xs x ys r n w h e d k = writing-put (f x) _ ys r n (writing-as (lines-next f xs i x h e) w) d k

pub overflow_add-at : goal.overflow_add-at
overflow_add-at g c =
    let w = record-written g.L.Line.text _ _ _ _ _ c.loop-x.invariant (search rules) c.x-item.is c.put.ensures c.unwrap_or-at.ensures in
    omega (arith, writing-room w, writing-length w)

pub loop-x-preserved : goal.loop-x-preserved
loop-x-preserved g c =
    record-written g.L.Line.text _ _ _ _ _ c.loop-x.invariant (search rules) c.x-item.is c.put.ensures c.unwrap_or-at.ensures

pub returns : goal.returns
returns g c =
    let d = writing-done c.loop-x.invariant (ap length (lines-done g.L.Line.text c.args.records.now c.loop-x.x-index (search rules))) in
    record { value = d.0; out_after = d.1 }
