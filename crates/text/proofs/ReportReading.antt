-- One line joins a report, or may not stand in it.
use Rattle.std.proofs.Common.{◌≡◌, ◌<◌, ◌↔◌, true, List, [], ◌∷◌, ◌++◌, length, Result, IsOk, OnOk, arith}
use Rattle.std.specs.Bool.{⊤}
use Rattle.std.specs.Result.{is_ok}
use Rattle.text.specs.Codes.{is_operation}
use Rattle.text.specs.Held.{report_of}
use Rattle.text.specs.Steps.{AddIs, report_adds}
use Rattle.text.specs.declared.report.Of.{Of}
use Rattle.text.specs.declared.report.Entry.{Entry}
use Rattle.text.specs.declared.report.ReportLine.TheVariants.{Group, Log}
use Rattle.text.proofs.Joins.{push-within}

module _ {E : Type 0} (r : Result (Unit {0}) E) (ofs : List Of) (log : List Entry) where
  pub of-joins : (ys : List Of) (x : Of) → (IsOk r ↔ (length ofs < 64)) → OnOk r (ys ≡ ofs ++ x ∷ []) → length log ≡ 0 →
      AddIs (report_adds (Group x) (report_of ofs log)) (report_of ys log) ⊤ (is_ok r)
  of-joins ys x v o e = go log e
    where
      go : (log : List Entry) → length log ≡ 0 → AddIs (report_adds (Group x) (report_of ofs log)) (report_of ys log) ⊤ (is_ok r)
      go [] e = push-within r ofs ys x 64 v o (λ os. report_of os []) ⊤ tt
      go (l ∷ ls) e = absurd (omega arith)

  pub log-joins : (ys : List Entry) (x : Entry) → (IsOk r ↔ (length log < 1024)) → OnOk r (ys ≡ log ++ x ∷ []) → is_operation x.op.kind ≡ true →
      AddIs (report_adds (Log x) (report_of ofs log)) (report_of ofs ys) ⊤ (is_ok r)
  log-joins ys x v o e = rw e (push-within r log ys x 1024 v o (λ ls. report_of ofs ls) ⊤ tt)
