-- Laws of the log by rising object: no line is counted twice, so there is room for all.
use Rattle.std.proofs.Common.{◌≡◌, ℕ, zero, suc, ◌+◌, ◌≤◌, ◌<◌, List, [], ◌∷◌, ◌++◌, length, get_or, take, drop, refl, sym, ap, ◌∙◌, arith, add-one, append_assoc, append-nil, length-append, take-append-drop}
use borrow.Author.Tests.{ne_eqb, eq-eqb}
use lib.Seq.{take-suc}
use Rattle.basics.proofs.Tests.{by_eq}
use Rattle.text.specs.declared.report.Entry.{Entry}
use Rattle.model.specs.Batch.{log_of}
use Rattle.model.specs.Host.{logs_from}
use Rattle.model.proofs.Report.{log-append}
use Rattle.host.specs.Steps.{lines_of}

-- ── the lines of one object ──
-- line i, a blank one past the last
abbrev pub line_at : List Entry → ℕ → Entry
line_at log i = get_or log i (record { rid = 0; num = 0; op = record { object = 0; kind = 0; key = 0; value = 0 } })

-- line i more
module _ (log : List Entry) (object i : ℕ) (h : i < length log) where
  abbrev l : Entry
  l = line_at log i

  more : log_of object (take (i + 1) log) ≡ log_of object (take i log) ++ log_of object (l ∷ [])
  more =
      ap (λ j. log_of object (take j log)) (add-one i) ∙ ap (log_of object) (take-suc log i _ h) ∙ log-append object (take i log) (l ∷ [])

  pub more-own : l.op.object ≡ object → log_of object (take (i + 1) log) ≡ log_of object (take i log) ++ l ∷ []
  more-own d = more ∙ rw (eq-eqb l.op.object object d) refl

  pub more-other : (l.op.object ≡ object → ⊥) → log_of object (take (i + 1) log) ≡ log_of object (take i log)
  more-other d = more ∙ rw (ne_eqb l.op.object object d) (append-nil (log_of object (take i log)))

  pub own-fits : l.op.object ≡ object → length (log_of object (take i log)) + 1 ≤ length (log_of object log)
  own-fits d =
      let all : log_of object log ≡ log_of object (take (i + 1) log) ++ log_of object (drop (i + 1) log) =
      ap (log_of object) (sym (take-append-drop (i + 1) log)) ∙ log-append object (take (i + 1) log) (drop (i + 1) log) in
      omega (
        arith,
        ap length all,
        ap length (more-own d),
        length-append (log_of object (take (i + 1) log)) (log_of object (drop (i + 1) log)),
        length-append (log_of object (take i log)) (l ∷ []),
      )

-- ── all objects ──
-- one object more
logs-next : (f : ℕ → List Entry) (k m : ℕ) → logs_from f k (suc m) ≡ logs_from f k m ++ f (k + m)
logs-next f k zero = let e : k ≡ k + 0 = omega arith in append-nil (f k) ∙ ap f e
logs-next f k (suc m) =
    let e : suc k + m ≡ k + suc m = omega arith in
    ap (λ ls. f k ++ ls) (logs-next f (suc k) m ∙ ap (λ j. logs_from f (suc k) m ++ f j) e)
    ∙ sym (append_assoc (f k) (logs_from f (suc k) m) (f (k + suc m)))

-- how many lines m objects from object k on have
abbrev pub lines_in : List Entry → (k m : ℕ) → ℕ
lines_in ls k m = length (logs_from (λ o. log_of o ls) k m)

nothing-in : (k m : ℕ) → lines_in [] k m ≡ 0
nothing-in k zero = refl
nothing-in k (suc m) = nothing-in (suc k) m

module _ (l : Entry) (ls : List Entry) where
  not_in : (k m : ℕ) → l.op.object < k → lines_in (l ∷ ls) k m ≡ lines_in ls k m
  not_in k zero h = refl
  not_in k (suc m) h =
      let i = not_in (suc k) m (omega arith) in
      let a = length-append (log_of k ls) (logs_from (λ o. log_of o (l ∷ ls)) (suc k) m) in
      let b = length-append (log_of k ls) (logs_from (λ o. log_of o ls) (suc k) m) in
      rw (ne_eqb l.op.object k (λ e. absurd (omega arith))) (omega (arith, a, b, i))

  once-in : (k m : ℕ) → lines_in (l ∷ ls) k m ≤ suc (lines_in ls k m)
  once-in k zero = omega arith
  once-in k (suc m) =
      let a = length-append (log_of k ls) (logs_from (λ o. log_of o (l ∷ ls)) (suc k) m) in
      let b = length-append (log_of k ls) (logs_from (λ o. log_of o ls) (suc k) m) in
      by_eq l.op.object k
      (λ e t. rw t (omega (arith, a, b, not_in (suc k) m (omega arith))))
      (λ e t. rw t (omega (arith, a, b, once-in (suc k) m)))

pub lines-few : (ls : List Entry) (k m : ℕ) → lines_in ls k m ≤ length ls
lines-few [] k m = omega (arith, nothing-in k m)
lines-few (l ∷ ls) k m = omega (arith, once-in l ls k m, lines-few ls k m)

module _ (log : List Entry) (m : ℕ) where
  pub object-next : logs_from (lines_of log) 0 (m + 1) ≡ logs_from (lines_of log) 0 m ++ log_of m log
  object-next =
      let e : 0 + m ≡ m = omega arith in
      ap (logs_from (lines_of log) 0) (add-one m) ∙ logs-next (lines_of log) 0 m
      ∙ ap (λ j. logs_from (lines_of log) 0 m ++ lines_of log j) e

  pub room-left : length (logs_from (lines_of log) 0 m) + length (log_of m log) ≤ length log
  room-left =
      omega (
        arith,
        lines-few log 0 (m + 1),
        ap length object-next,
        length-append (logs_from (lines_of log) 0 m) (log_of m log),
      )
