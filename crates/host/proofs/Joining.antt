-- A law of the log in order of execution: one line more.
use Rattle.std.proofs.Common.{◌≡◌, ℕ, List, [], ◌∷◌, ◌++◌, refl, sym, ap, ◌∙◌, append-nil}
use Rattle.basics.specs.Maps.{upd}
use Rattle.basics.proofs.Maps.{upd-at, upd_other}
use Rattle.basics.proofs.Tests.{by_eq}
use Rattle.text.specs.declared.report.Entry.{Entry}
use Rattle.model.specs.Batch.{log_of}
use Rattle.model.proofs.Report.{log-append}

-- it joins the log of its object
pub line_joins : (log : List Entry) (l : Entry) (lines : ℕ → List Entry) → ((o : ℕ) → lines o ≡ log_of o log) → (o : ℕ) →
    upd lines l.op.object (lines l.op.object ++ l ∷ []) o ≡ log_of o (log ++ l ∷ [])
line_joins log l lines held o =
    let object = l.op.object in
    let longer = lines object ++ l ∷ [] in
    let more : log_of o (log ++ l ∷ []) ≡ log_of o log ++ log_of o (l ∷ []) = log-append o log (l ∷ []) in
    by_eq object o
    (λ e d. upd-at lines longer e ∙ ap (λ o. lines o ++ l ∷ []) e ∙ ap (λ ls. ls ++ l ∷ []) (held o) ∙ sym (more ∙ rw d refl))
    (λ e d. upd_other lines longer e ∙ held o ∙ sym (append-nil (log_of o log)) ∙ sym (more ∙ rw d refl))
