-- The log lines by request and number.
use Rattle.std.specs.Prelude.{Bool, List, ◌≡◌, ℕ, suc, ◌+◌, ◌*◌, ◌%◌, ◌≤◌, ◌<◌, eqb, get_or, length}
use Rattle.basics.specs.Scans.{FirstFrom, Heads}
use Rattle.text.specs.Formats.{most_entries}
use Rattle.text.specs.declared.report.Entry.{Entry}
use Rattle.replay.specs.Held.{no_entry}

-- a log, and the answers of its lines
pub record Claimed : Type 0 where
  pub log : List Entry
  pub answers : List ℕ

-- the buckets, and the bucket of a line
abbrev pub claim_buckets : ℕ
claim_buckets = 1024

abbrev pub bucket_of : (rid num : ℕ) → ℕ
bucket_of r k = (r % claim_buckets * 67 + k % claim_buckets) % claim_buckets

abbrev pub bucket_at : List Entry → ℕ → ℕ
bucket_at log i = bucket_of (get_or log i no_entry).rid (get_or log i no_entry).num

abbrev pub in_bucket : List Entry → ℕ → ℕ → Bool
in_bucket log b i = eqb (bucket_at log i) b

-- of the lines from i on, the first of each bucket, and behind each line the next of its bucket
pub record LinkedFrom (log : List Entry) (i : ℕ) (heads afters : List ℕ) : Type 0 where
  pub few : length log ≤ most_entries
  pub firsts_linked : Heads (bucket_at log) claim_buckets (length log) i heads
  pub afters_room : length afters ≡ most_entries
  pub next : (j : ℕ) → i ≤ j → j < length log →
      FirstFrom (in_bucket log (bucket_at log j)) (suc j) (length log) (get_or afters j 0)

abbrev pub Linked : List Entry → (heads afters : List ℕ) → Type 0
Linked log heads afters = LinkedFrom log 0 heads afters
