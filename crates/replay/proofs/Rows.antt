-- Laws of rows 10 to 12 of one request.
use Rattle.std.proofs.Common.{◌≡◌, ℕ, Bool, true, false, cond, not, List, ◌∷◌, Option, Some, None, refl, sym, ap, ◌∙◌}
use Rattle.basics.proofs.Tests.{clash}
use Rattle.model.specs.Audit.{bad10, bad11, bad12, same_reply, same_path}
use Rattle.model.specs.Checks.{Check, check, first_fault, breaks, verdict}
use Rattle.model.specs.Replay.{Reply, silent, said, Outcome, ended}
use Rattle.replay.specs.Promises.{replied_as, left_open, outcome_of, row_by}
use Rattle.replay.specs.declared.lookups.Response.{Response}

-- the row that a request breaks first: its outcome, its response, and the outcome of the first request of its group
abbrev pub row_of : Outcome → Reply → Outcome → Option ℕ
row_of o reply first = cond (bad10 o) (Some 10) (cond (bad11 reply o) (Some 11) (cond (bad12 first o) (Some 12) None))

-- a request was left open where its reply is the silent one
pub silent-same : (reply : Reply) → left_open reply ≡ same_reply silent reply
silent-same silent = refl
silent-same (said s v) = refl

-- is the row that code finds
module _ (way : List ℕ) (reply : Option Response) (same : Bool) where
  pub row-differs : (end : Option (Option Response)) → end ≡ None → (first : Outcome) →
      row_by end reply same ≡ row_of (outcome_of end way) (replied_as reply) first
  row-differs end q first = rw q

  pub row-ends : (end : Option (Option Response)) (own : Option Response) → end ≡ Some own → (a : Reply) (w : List ℕ) → same ≡ same_path way w →
      row_by end reply same ≡ row_of (outcome_of end way) (replied_as reply) (ended a w)
  row-ends end own q a w s = rw (q, s) (ap (cond (not (same_reply (replied_as own) (replied_as reply))) (Some 11)) (either (same_path way w)))
    where
      either : (x : Bool) → ◌≡◌ {A = Option ℕ} (cond x None (Some 12)) (cond (not x) (Some 12) None)
      either true = refl
      either false = refl

-- ── the row among the checks ──
faults : (a b c : Bool) (n : ℕ) (rest : List Check) →
    first_fault (check 10 (breaks a n) ∷ check 11 (breaks b n) ∷ check 12 (breaks c n) ∷ rest)
    ≡ cond a (verdict 10 n) (cond b (verdict 11 n) (cond c (verdict 12 n) (first_fault rest)))
faults true b c n rest = refl
faults false true c n rest = refl
faults false false true n rest = refl
faults false false false n rest = refl

module _ (o : Outcome) (reply : Reply) (first : Outcome) (n : ℕ) (rest : List Check) where
  abbrev pub checks_of : List Check
  checks_of =
      check 10 (breaks (bad10 o) n) ∷ check 11 (breaks (bad11 reply o) n) ∷ check 12 (breaks (bad12 first o) n) ∷ rest

  pub row-none : row_of o reply first ≡ None → first_fault checks_of ≡ first_fault rest
  row-none e = faults (bad10 o) (bad11 reply o) (bad12 first o) n rest ∙ none (bad10 o) (bad11 reply o) (bad12 first o) e
    where
      none : (a b c : Bool) → ◌≡◌ {A = Option ℕ} (cond a (Some 10) (cond b (Some 11) (cond c (Some 12) None))) None →
          cond a (verdict 10 n) (cond b (verdict 11 n) (cond c (verdict 12 n) (first_fault rest))) ≡ first_fault rest
      none true b c e = clash (cc)
      none false true c e = clash (cc)
      none false false true e = clash (cc)
      none false false false e = refl

  pub row-some : (r : ℕ) → Some r ≡ row_of o reply first → verdict r n ≡ first_fault checks_of
  row-some r e = sym (faults (bad10 o) (bad11 reply o) (bad12 first o) n rest ∙ some (bad10 o) (bad11 reply o) (bad12 first o) e)
    where
      some : (a b c : Bool) → Some r ≡ cond a (Some 10) (cond b (Some 11) (cond c (Some 12) None)) →
          cond a (verdict 10 n) (cond b (verdict 11 n) (cond c (verdict 12 n) (first_fault rest))) ≡ verdict r n
      some true b c e = let z : r ≡ 10 = cc in ap (λ k. verdict k n) (sym z)
      some false true c e = let z : r ≡ 11 = cc in ap (λ k. verdict k n) (sym z)
      some false false true e = let z : r ≡ 12 = cc in ap (λ k. verdict k n) (sym z)
      some false false false e = clash (cc)
