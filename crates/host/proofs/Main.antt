-- What the reference host comes to on two texts: theorems about `record_of`, which is what `record` gives and writes for every input. Each is
-- proved by one citation.
use Prim.Native.Nat.{ℕ}
use mathlib.Core.List.{List}
use mathlib.Core.Logic.{◌↔◌}
use mathlib.Core.Path.{◌≡◌}
use Rattle.model.specs.Batch.{Batch}
use Rattle.model.specs.Host.{made}
use Rattle.verifier.specs.Faults.{audit_of}
use Rattle.host.specs.Accepted.{acceptance}
use Rattle.host.specs.Recorded.{texts_of, batch_recorded, record_of, result_of}
use Rattle.host.specs.Records.{Records}
use Rattle.host.proofs.Acceptance.{records-made, records-exactly, records-accepted, never-short}

module _ (programs schedule : List ℕ) (m n : ℕ) where
  -- Refused exactly where a check finds a fault: the verdict is 0 where none does.
  pub exactly : ((result_of (record_of programs schedule m n)).verdict ≡ 0) ↔ Records programs schedule m n
  exactly = records-exactly programs schedule m n

  module _ (x : Records programs schedule m n) where
    -- Demand 2: then the two texts of the batch that the run made are written,
    pub recorded : record_of programs schedule m n ≡ made (texts_of x.batch)
    recorded = records-made programs schedule m n x

    -- Demand 3: and the audit accepts them, with the counts of that batch.
    pub accepted : audit_of programs (texts_of x.batch).trace (texts_of x.batch).report
        ≡ acceptance x.batch
    accepted = records-accepted programs schedule m n x

-- Row 16 does not hold of buffers as long as a text may be.
pub buffers-suffice : (programs schedule : List ℕ) (b : Batch) → batch_recorded programs schedule ≡ made b →
    record_of programs schedule 65535 65535 ≡ made (texts_of b)
buffers-suffice = never-short
