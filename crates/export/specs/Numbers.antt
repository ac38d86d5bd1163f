-- What the functions leave in the slices that a caller lends. Assumes nothing.
use Rattle.std.specs.Prelude.{ℕ, cond, List, [], ◌∷◌, ◌++◌, ◌≡◌, ltb, length, get_or}
use Rattle.lines.specs.Put.{front}
use Rattle.model.specs.Host.{Result}
use Rattle.verifier.specs.declared.Audited.{Audited}
use Rattle.host.specs.Recorded.{Texts, result_of, written_of}
use Rattle.host.specs.declared.Recorded.{Recorded}

-- x where s has room for n numbers, else y
unfoldable pub if_room : {A : Type 0} → (n : ℕ) → List ℕ → (x y : A) → A
if_room n s x y = cond (ltb (length s) n) y x

-- x where out has room for seven numbers and order for t, else y
abbrev pub if_both : {A : Type 0} → (out t order : List ℕ) → (x y : A) → A
if_both out t order x y = if_room 7 out (if_room (length t) order x y) y

-- s with the numbers v in front, where it has room for them
abbrev pub handed : (v s : List ℕ) → List ℕ
handed v s = if_room (length v) s (front v s) s

-- the numbers of a result, in the order of its fields
abbrev pub audit_numbers : Audited → List ℕ
audit_numbers a = a.verdict ∷ a.line ∷ a.requests ∷ a.operations ∷ a.blocks ∷ a.rest ∷ []

abbrev pub record_numbers : Recorded → List ℕ
record_numbers r = r.verdict ∷ r.line ∷ r.trace_len ∷ r.report_len ∷ []

-- and a result out of its numbers
abbrev pub record_from : List ℕ → Recorded
record_from v = record { verdict = get_or v 0 0; line = get_or v 1 0; trace_len = get_or v 2 0; report_len = get_or v 3 0 }

-- the host's result and its texts: in out its numbers, in each buffer its text over the front of what it held, and r numbers in all; where
-- out is too short everything is as it was
pub record RecordHanded (x : Result Texts) (trace report out trace_after report_after out_after : List ℕ) (r : ℕ) : Type 0 where
  pub count : r ≡ if_room 4 out 4 0
  pub numbers : out_after ≡ handed (record_numbers (result_of x)) out
  pub trace_bytes : trace_after ≡ if_room 4 out (front (written_of x).trace trace) trace
  pub report_bytes : report_after ≡ if_room 4 out (front (written_of x).report report) report

-- the audit's result with an order t, in numbers: in out the six of the result and how long t is, in order t, and r numbers in all; where
-- out has no room for seven, or order none for t, everything is as it was
pub record OrderHanded (a : Audited) (t out order out_after order_after : List ℕ) (r : ℕ) : Type 0 where
  pub count : r ≡ if_both out t order 7 0
  pub numbers : out_after ≡ if_both out t order (front (audit_numbers a ++ (length t ∷ [])) out) out
  pub items : order_after ≡ if_both out t order (front t order) order
