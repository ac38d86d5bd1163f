-- Laws of what is printed to a buffer: of a text that is not empty, no byte written says that it did not fit.
use Prim.Native.Nat.{ℕ, ◌<◌}
use mathlib.Core.List.{List}
use mathlib.Core.Logic.{◌↔◌}
use mathlib.Core.Path.{◌≡◌, sym, ap, subst, ◌∙◌}
use native.Mathlib.Omega.{arith}
use lib.Dec.{ltb}
use lib.ListN.{length}
use borrow.Author.Tests.{ltb-true, ltb-false}
use Rattle.basics.proofs.Tests.{by_bool}
use Rattle.lines.specs.Put.{written_of, PutIs}
use Rattle.std.proofs.Common.{Option, Some, None}
use Rattle.lines.proofs.Puts.{put-short, put-done}
use Rattle.export.specs.Printed.{PrintedIs}

-- of a text that is not empty no byte is written exactly where it does not fit
none-exactly : (t o p : List ℕ) (q : Option ℕ) → 0 < length t → PutIs t o p q → (written_of q ≡ 0) ↔ (length o < length t)
none-exactly t o p q h i =
    by_bool (ltb (length o) (length t))
    (λ b. let s = ltb-true _ _ b in (λ z. s, λ l. ap written_of (i.answer ∙ sym (put-short t o s).answer)))
    (λ b.
    let f = ltb-false _ _ b in
    let w = (put-done t o p q f i).0 in
    (λ z. absurd (omega (arith, h, w, z)), λ l. absurd (omega (arith, f, l))))

pub printed-is : (t o p : List ℕ) (q : Option ℕ) (r : ℕ) → 0 < length t → PutIs t o p q → r ≡ written_of q → PrintedIs t o p r
printed-is t o p q r h i e =
    record {
      count = e ∙ ap written_of i.answer;
      bytes = i.bytes;
      short = subst (λ n. (n ≡ 0) ↔ (length o < length t)) (sym e) (none-exactly t o p q h i);
    }
