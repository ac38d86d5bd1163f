-- Demand 3 for the host, on texts: what has to hold of the two buffers and the result where the verdict is 0.
use Rattle.std.specs.Prelude.{ℕ, List, ◌≡◌, length, take}
use Rattle.basics.specs.Count.{count}
use Rattle.text.specs.Trace.{is_request}
use Rattle.model.specs.Batch.{Batch}
use Rattle.model.specs.Checks.{verdict}
use Rattle.model.specs.Host.{made}
use Rattle.verifier.specs.Faults as faults
use Rattle.verifier.specs.declared.Audited.{Audited}
use Rattle.host.specs.Recorded.{batch_recorded}
use Rattle.host.specs.declared.Recorded.{Recorded}

-- verdict 0, with the counts of a batch
abbrev pub acceptance : Batch → Audited
acceptance b = faults.audited (verdict 0 0) (count is_request b.trace) (length b.log)

-- the run made a batch, and the audit of these programs with the fronts that were written accepts it
pub record Accepted (programs schedule trace_after report_after : List ℕ) (r : Recorded) : Type 0 where
  pub batch : Batch
  pub run : batch_recorded programs schedule ≡ made batch
  pub audited : faults.audit_of programs (take r.trace_len trace_after) (take r.report_len report_after) ≡ acceptance batch
