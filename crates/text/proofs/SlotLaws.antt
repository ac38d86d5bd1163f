-- A slot is looked for from the head of its bucket on.
use Rattle.std.proofs.Common.{ℕ, List, length, get_or, ap, arith}
use lib.Dec.{eqb}
use borrow.Author.Tests.{eqb-true}
use Rattle.basics.specs.Scans.{FirstFrom}
use Rattle.basics.proofs.Scans.{first-from-head}
use Rattle.text.specs.Held.{of_at}
use Rattle.text.specs.Slots.{slot_bucket, Slots}
use Rattle.text.specs.declared.report.Of.{Of}

-- a slot, looked for from the head of its bucket on
pub slot-first : (ofs : List Of) (heads : List ℕ) (r s : ℕ) → Slots ofs heads →
    FirstFrom (λ i. eqb (of_at ofs i).rid r) (get_or heads (slot_bucket r) 0) (length ofs) s →
    FirstFrom (λ i. eqb (of_at ofs i).rid r) 0 (length ofs) s
slot-first ofs heads r s =
    first-from-head (λ i. slot_bucket (of_at ofs i).rid) 256 (length ofs) (λ i. eqb (of_at ofs i).rid r) (slot_bucket r) s heads (omega arith)
    (λ k e. ap slot_bucket (eqb-true (of_at ofs k).rid r e))
