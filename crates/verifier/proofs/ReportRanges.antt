-- What a readable report holds is in the ranges of its fields, as this crate asks for them.
use Prim.Native.Nat.{ℕ, ◌≤◌, ◌<◌}
use mathlib.Core.List.{List, [], ◌∷◌}
use mathlib.Core.Path.{◌≡◌}
use native.Mathlib.Omega.{arith}
use lib.ListN.{length}
use Rattle.basics.specs.Lists.{All}
use Rattle.text.specs.Report.{Report, read_report}
use Rattle.text.specs.Text.{readable}
use Rattle.text.specs.Written.{OfIn, EntryIn}
use Rattle.text.proofs.Ranges.{report-in}

-- a report whose fields are in range
pub record InRange (r : Report) : Type 0 where
  pub objects : All (λ l. l.op.object < 16) r.log
  pub rids : All (λ l. l.rid ≤ 65535) r.log
  pub nums : All (λ l. l.num ≤ 256) r.log
  pub few : length r.log ≤ 1024
  pub counts : All (λ x. x.count ≤ 256) r.ofs

all_read : {A : Type 0} (P Q : A → Type 0) → ((x : A) → P x → Q x) → (xs : List A) → All P xs → All Q xs
all_read P Q f [] h = tt
all_read P Q f (x ∷ xs) h = (f x h.0, all_read P Q f xs h.1)

pub report-in-range : (s : List ℕ) (r : Report) → read_report s ≡ readable r → InRange r
report-in-range s r e =
    let h = report-in s r e in
    record {
      objects = all_read EntryIn (λ l. l.op.object < 16) (λ l i. omega (arith, i.fields.0.below)) r.log h.log_in;
      rids = all_read EntryIn (λ l. l.rid ≤ 65535) (λ l i. i.fields.1.0.below) r.log h.log_in;
      nums = all_read EntryIn (λ l. l.num ≤ 256) (λ l i. i.fields.1.1.0.below) r.log h.log_in;
      few = h.few_entries;
      counts = all_read OfIn (λ x. x.count ≤ 256) (λ x i. i.1.1.0.below) r.ofs h.ofs_in;
    }
