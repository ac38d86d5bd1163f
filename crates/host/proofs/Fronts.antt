-- The fronts of the two buffers, as long as the result says, are the texts that were written.
use Prim.Native.Nat.{ℕ, ◌≤◌}
use mathlib.Core.List.{List}
use mathlib.Core.Path.{◌≡◌, refl, ap, ◌∙◌}
use native.Mathlib.Omega.{arith}
use lib.ListN.{length, take, length-take}
use Rattle.lines.specs.Put.{front}
use Rattle.lines.proofs.Puts.{front-taken}
use Rattle.model.specs.Host.{Result, fault, made}
use Rattle.host.specs.Recorded.{Texts, result_of, written_of, RecordIs}
use Rattle.host.specs.declared.Recorded.{Recorded}

trace-length : (x : Result Texts) → (result_of x).trace_len ≡ length (written_of x).trace
trace-length (fault number line) = refl
trace-length (made t) = refl

report-length : (x : Result Texts) → (result_of x).report_len ≡ length (written_of x).report
report-length (fault number line) = refl
report-length (made t) = refl

-- a text t over the front of a buffer, and its length n
module _ (t before after : List ℕ) (n : ℕ) (d : n ≡ length t) (e : after ≡ front t before) where
  front_of : take n after ≡ t
  front_of = rw (d, e) (front-taken t before)

  front-room : n ≤ length after
  front-room = omega (arith, d, ap length front_of, length-take n after)

module _ {x : Result Texts} {trace report trace_after report_after : List ℕ} {r : Recorded}
    (h : RecordIs x trace report trace_after report_after r) where
  trace-len : r.trace_len ≡ length (written_of x).trace
  trace-len = ap (λ r. r.trace_len) h.result ∙ trace-length x

  report-len : r.report_len ≡ length (written_of x).report
  report-len = ap (λ r. r.report_len) h.result ∙ report-length x

  pub trace-front : take r.trace_len trace_after ≡ (written_of x).trace
  trace-front = front_of (written_of x).trace trace trace_after r.trace_len trace-len h.trace_bytes

  pub trace-room : r.trace_len ≤ length trace_after
  trace-room = front-room (written_of x).trace trace trace_after r.trace_len trace-len h.trace_bytes

  pub report-front : take r.report_len report_after ≡ (written_of x).report
  report-front = front_of (written_of x).report report report_after r.report_len report-len h.report_bytes

  pub report-room : r.report_len ≤ length report_after
  report-room = front-room (written_of x).report report report_after r.report_len report-len h.report_bytes
