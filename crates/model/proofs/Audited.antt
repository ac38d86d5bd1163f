-- Demand 3 for the audit: verdict 0 exactly when rows 4 and 6 do not hold and an order is allowed. And row 9 with its number.
use mathlib.Core.Bool.{Bool, false}
use mathlib.Core.List.{List, [], ◌∷◌, append-nil}
use mathlib.Core.Logic.{◌≢◌, ◌↔◌}
use mathlib.Core.Option.{none}
use mathlib.Core.Path.{◌≡◌, refl, sym, ap, ◌∙◌}
use Prim.Native.Nat.{ℕ, suc}
use lib.Dec.{eqb}
use native.Mathlib.Omega.{arith}
use Rattle.basics.specs.Lists.{All}
use Rattle.text.specs.declared.report.Of.{Of}
use Rattle.text.specs.Report.{Report}
use Rattle.text.specs.Text.{readable}
use Rattle.text.specs.declared.trace.Event.{Event}
use Rattle.model.specs.Audit.{left_over, replay_checks, from9, from4, audit}
use Rattle.model.specs.Requests.{row4, row6}
use Rattle.model.specs.Claims.{row7, row8, NoneTo8}
use Rattle.model.specs.Batch.{batch_of, Batch, Node}
use Rattle.model.specs.Checks.{verdict, Check, check, first_fault}
use Rattle.model.specs.Demand.{Demand3}
use Rattle.model.specs.Machine.{Machine}
use Rattle.model.specs.Nodes.{merge_of}
use Rattle.model.specs.Precedes.{Returns}
use Rattle.model.proofs.Claims.{Reported, rows-reported}
use Rattle.model.proofs.Complete.{complete}
use Rattle.model.proofs.Passes.{Passes, rows-passes}
use Rattle.model.proofs.Precedes.{merge-returns}
use Rattle.model.proofs.Scans.{Clear, NotRow, passes, passed, clear-fault, fault-clear}
use Rattle.model.proofs.Sound.{sound}
use Rattle.model.proofs.Trace.{Formed, row4-order, row6-matching}

-- the verdict n is not that of a list of checks of other rows, unless it is 0
no-fault : (n : ℕ) (cs : List Check) → All (NotRow n) cs → (first_fault cs).number ≡ n → All Clear cs × (0 ≡ n)
no-fault n cs h e = fault-clear n cs [] h (ap (λ cs. (first_fault cs).number) (append-nil cs) ∙ e)

rows-formed : (known : ℕ → Bool) (b : Batch) → row4 known b.trace ≡ none → row6 b ≡ none → Formed b
rows-formed known b e d = record { in_order = ((row4-order known b.trace).0 e).0; matching = (row6-matching b).0 d }

-- the audit of a trace and a report that were read is the first fault of the list
pub audit-rows : (M : Machine) (opening : ℕ → M.Content) (known : ℕ → Bool) (trace : List Event) (report : Report) →
    first_fault (from4 M opening known trace (readable report)) ≡ audit M opening known (batch_of trace report)
unfolding audit
audit-rows M opening known trace report = refl

module _ (M : Machine) (opening : ℕ → M.Content) (known : ℕ → Bool) (b : Batch) where
  -- ── the rows that the checks have ──
  replay-rows : (n : ℕ) → eqb 10 n ≡ false → eqb 11 n ≡ false → eqb 12 n ≡ false → (k : ℕ) (xs : List Of) →
      All (NotRow n) (replay_checks M opening b k xs)
  replay-rows n a c d k [] = tt
  replay-rows n a c d k (x ∷ xs) = (a, (c, (d, replay-rows n a c d (suc k) xs)))

  -- ── rows 4 to 8 ──
  past-8 : NoneTo8 known b → first_fault (from9 M opening b) ≡ audit M opening known b
  unfolding audit
  past-8 h =
      passes verdict 8 (row8 b) _ h.3
      ∙ passes verdict 7 (row7 b) _ h.2
      ∙ passes verdict 6 (row6 b) _ h.1
      ∙ passes verdict 4 (row4 known b.trace) _ h.0

  none_to_8 : (n : ℕ) → eqb 4 n ≡ false → eqb 6 n ≡ false → eqb 7 n ≡ false → eqb 8 n ≡ false → (audit M opening known b).number ≡ n →
      NoneTo8 known b × ((first_fault (from9 M opening b)).number ≡ n)
  unfolding audit
  none_to_8 n d f g h e =
      let e4 = passed 4 (row4 known b.trace) _ n d e in
      let e6 = passed 6 (row6 b) _ n f e4.1 in
      let e7 = passed 7 (row7 b) _ n g e6.1 in
      let e8 = passed 8 (row8 b) _ n h e7.1 in
      ((e4.0, e6.0, e7.0, e8.0), e8.1)

  -- ── verdict 0 ──
  -- what verdict 0 leaves of the rows
  pub record Accepted : Type 0 where
    pub lines4 : row4 known b.trace ≡ none
    pub ofs6 : row6 b ≡ none
    pub passes : Passes M opening b

  pub accepted-formed : Accepted → Formed b
  accepted-formed h = rows-formed known b h.lines4 h.ofs6

  number-accepted : (audit M opening known b).number ≡ 0 → Accepted
  number-accepted e =
      let r = none_to_8 0 refl refl refl refl e in
      let n = r.0 in
      let c = (no-fault 0 (from9 M opening b) (refl, replay-rows 0 refl refl refl 1 b.ofs) r.1).0 in
      record {
        lines4 = n.0;
        ofs6 = n.1;
        passes = (rows-passes M opening b).0 (n.2, n.3, c.0, c.1);
      }

  accepted-audit : Accepted → audit M opening known b ≡ verdict 0 0
  accepted-audit h =
      let r = (rows-passes M opening b).1 h.passes in
      sym (past-8 (h.lines4, h.ofs6, r.0, r.1))
      ∙ ap first_fault (sym (append-nil (from9 M opening b)))
      ∙ clear-fault (from9 M opening b) [] (r.2, r.3)

  pub audit-accepted : (audit M opening known b ≡ verdict 0 0) ↔ Accepted
  audit-accepted = (λ e. number-accepted (ap (λ v. v.number) e), accepted-audit)

  -- its line is 0
  pub audit-zero : (audit M opening known b).number ≡ 0 → audit M opening known b ≡ verdict 0 0
  audit-zero e = accepted-audit (number-accepted e)

  pub audit-demand : (audit M opening known b ≡ verdict 0 0) ↔ Demand3 M opening known b
  audit-demand = (
    λ e.
        let h = audit-accepted.0 e in
        record {
          lines4 = h.lines4;
          ofs6 = h.ofs6;
          allowed = sound M opening b (accepted-formed h) h.passes;
        },
    λ d.
        let f = rows-formed known b d.lines4 d.ofs6 in
        audit-accepted.1 (record {
          lines4 = d.lines4;
          ofs6 = d.ofs6;
          passes = complete M opening b f d.allowed;
        }),
  )

  -- ── verdict 9 ──
  number-left : (audit M opening known b).number ≡ 9 → NoneTo8 known b × ((merge_of b).1 ≢ [])
  number-left e = let c = none_to_8 9 refl refl refl refl e in (c.0, λ i. stays (rw i at c.1))
    where
      stays : (first_fault (replay_checks M opening b 1 b.ofs)).number ≡ 9 → ⊥
      stays e =
          let z = no-fault 9 (replay_checks M opening b 1 b.ofs) (replay-rows 9 refl refl refl 1 b.ofs) e in
          omega (arith, z.1)

  left-audit : NoneTo8 known b × ((merge_of b).1 ≢ []) → audit M opening known b ≡ verdict 9 0
  left-audit h = sym (past-8 h.0) ∙ found (merge_of b).1 h.1
    where
      found : (m : List Node) → m ≢ [] → first_fault (check 9 (left_over m) ∷ replay_checks M opening b 1 b.ofs) ≡ verdict 9 0
      found [] n = absurd (n refl)
      found (x ∷ xs) n = refl

  audit-left : (audit M opening known b ≡ verdict 9 0) ↔ (NoneTo8 known b × ((merge_of b).1 ≢ []))
  audit-left = (λ e. number-left (ap (λ v. v.number) e), left-audit)

  -- its line is 0
  pub audit-nine-line : (audit M opening known b).number ≡ 9 → audit M opening known b ≡ verdict 9 0
  audit-nine-line e = left-audit (number-left e)

  -- what says that the merge leaves something over, where rows 4 to 8 do not hold, says row 9
  pub audit-nine-by : {P : Type 0} → (Formed b → Reported b → ((merge_of b).1 ≢ []) ↔ P) →
      (audit M opening known b ≡ verdict 9 0) ↔ (NoneTo8 known b × P)
  audit-nine-by {P} says = (
    λ e. let h = audit-left.0 e in (h.0, (at h.0).0 h.1),
    λ h. audit-left.1 (h.0, (at h.0).1 h.1),
  )
    where
      at : NoneTo8 known b → ((merge_of b).1 ≢ []) ↔ P
      at r = says (rows-formed known b r.0 r.1) ((rows-reported b).0 (r.2, r.3))

  pub audit-nine : (audit M opening known b ≡ verdict 9 0) ↔ (NoneTo8 known b × Returns b)
  audit-nine = audit-nine-by (merge-returns b)
