-- Laws of the log lines linked by request and number: none linked yet, and where the walk down a chain ends.
use Rattle.std.proofs.Common.{◌≡◌, ℕ, ◌≤◌, ◌<◌, true, false, List, length, get_or, replicate, Some, None, position, lt-ltb, arith, le-ltb}
use Rattle.std.proofs.lemmas.List.Sums.{position_or_len_is}
use Rattle.basics.proofs.Scans.{heads-start}
use Rattle.text.specs.declared.report.Entry.{Entry}
use Rattle.model.specs.Batch.{claims}
use Rattle.replay.specs.Held.{no_entry}
use Rattle.replay.specs.Index.{bucket_of, bucket_at, in_bucket, LinkedFrom}

-- no line above place j claims operation k of request r, and line j is in its bucket
pub record Walking (log : List Entry) (r k j : ℕ) : Type 0 where
  pub above : (i : ℕ) → i < j → i < length log → claims r k (get_or log i no_entry) ≡ false
  pub bucketed : j < length log → in_bucket log (bucket_of r k) j ≡ true

module _ (log : List Entry) where
  pub linked-start : (heads afters : List ℕ) → length log ≤ 1024 → heads ≡ replicate 1024 1024 → length afters ≡ 1024 →
      LinkedFrom log (length log) heads afters
  linked-start heads afters few e l = record {
    few = few;
    firsts_linked = heads-start (bucket_at log) 1024 (length log) 1024 few heads e;
    afters_room = l;
    next = λ j a b. absurd (omega arith);
  }

  -- line j is reached, or the end
  module _ (r k j : ℕ) (w : Walking log r k j) where
    pub walk-hit : j < length log → claims r k (get_or log j no_entry) ≡ true → Some j ≡ position (claims r k) log
    walk-hit low e =
        rw (position_or_len_is (claims r k) log j no_entry (omega arith) (λ i l. w.above i l (omega arith)) (λ _. e), lt-ltb j (length log) low)

    pub walk_end : length log ≤ j → None ≡ position (claims r k) log
    walk_end l =
        rw (
          position_or_len_is (claims r k) log (length log) no_entry (omega arith) (λ i s. w.above i (omega arith) s) (λ s. absurd (omega arith)),
          le-ltb (length log) (length log) (omega arith),
        )
