-- Laws of slices with and without room for the numbers.
use Prim.Native.Nat.{ℕ, ◌<◌, ◌≤◌}
use mathlib.Core.Bool.{Bool, cond}
use mathlib.Core.List.{List}
use mathlib.Core.Path.{◌≡◌, sym, ap, subst, ◌∙◌}
use lib.ListN.{length, get_or}
use borrow.Author.Tests.{lt-ltb, le-ltb}
use Rattle.lines.specs.Put.{front}
use Rattle.model.specs.Host.{Result}
use Rattle.host.specs.Accepted.{Accepted}
use Rattle.host.specs.Recorded.{Texts, result_of, RecordIs}
use Rattle.host.specs.declared.Recorded.{Recorded}
use Rattle.export.specs.Numbers.{if_room, handed, record_numbers, record_from, RecordHanded}

module _ {A : Type 0} (n : ℕ) (s : List ℕ) (x y : A) where
  pub no_room : length s < n → y ≡ if_room n s x y
  unfolding if_room
  no_room h = sym (ap (λ (t : Bool). cond t y x) (lt-ltb (length s) n h))

  pub room : n ≤ length s → x ≡ if_room n s x y
  unfolding if_room
  room h = sym (ap (λ (t : Bool). cond t y x) (le-ltb (length s) n h))

-- the numbers v, which are w, stand in front
pub handed-in : (v w s u : List ℕ) → v ≡ w → u ≡ front v s → length w ≤ length s → u ≡ handed w s
handed-in v w s u d e h = e ∙ ap (λ v. front v s) d ∙ room (length w) s (front w s) s h

-- a run whose numbers found no room, and one that was handed out
module _ (x : Result Texts) (trace report s : List ℕ) where
  pub not-handed : length s < 4 → RecordHanded x trace report s trace report s 0
  not-handed h =
      record { count = no_room 4 s _ _ h; numbers = no_room 4 s _ _ h; trace_bytes = no_room 4 s _ _ h; report_bytes = no_room 4 s _ _ h }

  pub record-handed : (trace_after report_after u : List ℕ) (r : Recorded) → RecordIs x trace report trace_after report_after r →
      u ≡ front (record_numbers r) s → 4 ≤ length s → RecordHanded x trace report s trace_after report_after u 4
  record-handed trace_after report_after u r i e h =
      record {
        count = room 4 s 4 0 h;
        numbers = handed-in (record_numbers r) (record_numbers (result_of x)) s u (ap record_numbers i.result) e h;
        trace_bytes = i.trace_bytes ∙ room 4 s _ _ h;
        report_bytes = i.report_bytes ∙ room 4 s _ _ h;
      }

-- what the host promises of an accepted run holds of the numbers that were handed out
pub handed-accepted : (programs schedule trace_after report_after s u : List ℕ) (r : Recorded) → u ≡ front (record_numbers r) s →
    ((r.verdict ≡ 0) → Accepted programs schedule trace_after report_after r) → get_or u 0 0 ≡ 0 →
    Accepted programs schedule trace_after report_after (record_from u)
unfolding front
handed-accepted programs schedule trace_after report_after s u r e h z =
    let d : record_from u ≡ r = ap record_from e in
    subst (Accepted programs schedule trace_after report_after) (sym d) (h (sym (ap (λ r. r.verdict) d) ∙ z))
