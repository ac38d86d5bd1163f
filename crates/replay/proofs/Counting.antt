-- Row 8 in the terms of its scan: the operations of a request, and the `of` lines.
use Rattle.std.proofs.Common.{◌≡◌, ℕ, suc, ◌+◌, ◌-◌, ◌≤◌, ◌<◌, true, false, ◌&&◌, ◌||◌, List, [], ◌∷◌, length, Option, Some, None, position, refl, sym, ap, ◌∙◌, arith}
use Rattle.std.proofs.Math.Option.{none, some}
use Rattle.std.specs.Option.{is_some, option_map}
use Rattle.basics.specs.Firsts.{firsts}
use Rattle.basics.proofs.Firsts.{firsts-get_or}
use Rattle.basics.proofs.Tests.{by_bool}
use Rattle.text.specs.Held.{no_of, of_at}
use Rattle.text.specs.declared.report.Entry.{Entry}
use Rattle.text.specs.declared.report.Of.{Of}
use Rattle.model.specs.Claims.{all_claimed, bad8}
use Rattle.model.specs.FirstBad.{first_bad}
use Rattle.model.specs.Batch.{claims, claimed}
use Rattle.model.proofs.LineScans.{Scanned, scan-on, scan-bad, scan-end}
use Rattle.replay.proofs.Places.{position-here, position-next}

-- ── the operations of a request, n in all, looked for from the last downward; k are left ──
pub record Counting (log : List Entry) (r n k : ℕ) : Type 0 where
  pub same : all_claimed log r k ≡ all_claimed log r n

-- an operation is claimed where a line is found
found : (i : Option ℕ) → is_some i ≡ is_some (option_map suc i)
found None = refl
found (Some i) = refl

pub claimed-is : (log : List Entry) (r k : ℕ) → claimed log r k ≡ is_some (position (claims r k) log)
claimed-is [] r k = refl
claimed-is (l ∷ ls) r k = by_bool (claims r k l)
    (λ e. rw (position-here (claims r k) l ls e, e))
    (λ e.
    ap (λ b. b || claimed ls r k) e ∙ claimed-is ls r k ∙ found (position (claims r k) ls)
    ∙ ap is_some (sym (position-next (claims r k) l ls e)))

module _ {log : List Entry} {r n : ℕ} where
  -- of k operations the last has a log line
  module _ {k : ℕ} (s : Counting log r n k) (h : 0 < k) (x : Option ℕ) (e : x ≡ position (claims r (k - 1 + 1)) log) where
    last : all_claimed log r k ≡ (is_some x && all_claimed log r (k - 1))
    last =
        let z : k ≡ suc (k - 1) = omega arith in
        let o : k - 1 + 1 ≡ suc (k - 1) = omega arith in
        ap (all_claimed log r) z
        ∙ ap (λ b. b && all_claimed log r (k - 1)) (claimed-is log r (suc (k - 1)) ∙ ap is_some (sym (e ∙ ap (λ i. position (claims r i) log) o)))

    pub count-on : is_some x ≡ true → Counting log r n (k - 1)
    count-on b = record { same = sym (last ∙ rw b) ∙ s.same }

    pub count-not : is_some x ≡ false → all_claimed log r n ≡ false
    count-not b = sym s.same ∙ last ∙ rw b

  pub count-end : {k : ℕ} → Counting log r n k → k ≤ 0 → all_claimed log r n ≡ true
  count-end {k} s h = let z : k ≡ 0 = omega arith in sym (rw z at s.same)

-- ── `of` line i ──
module _ (log : List Entry) (ofs : List Of) {i : ℕ} (s : Scanned (bad8 log) (of_at ofs) 1 (length ofs) i) where
  whole : first_bad (bad8 log) 1 [] (firsts (of_at ofs) (length ofs)) ≡ first_bad (bad8 log) 1 [] ofs
  whole = ap (first_bad (bad8 log) 1 []) (firsts-get_or ofs no_of)

  module _ (h : i < length ofs) where
    pub counts-more : all_claimed log (of_at ofs i).rid (of_at ofs i).count ≡ false → some (i + 1) ≡ first_bad (bad8 log) 1 [] ofs
    counts-more d = scan-bad s h (i + 1) (omega arith) (rw d) ∙ whole

    pub counts_all : all_claimed log (of_at ofs i).rid (of_at ofs i).count ≡ true → Scanned (bad8 log) (of_at ofs) 1 (length ofs) (i + 1)
    counts_all d = scan-on s h (rw d)

  pub counts-end : length ofs ≤ i → none ≡ first_bad (bad8 log) 1 [] ofs
  counts-end h = scan-end s h ∙ whole
