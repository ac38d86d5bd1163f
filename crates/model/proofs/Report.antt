-- The report that the host writes of a state: its logs one behind the other are the objects' logs, and its `of` lines those of the trace.
use mathlib.Core.List.Memᴰ
use mathlib.Core.List.{List, [], ◌∷◌, ◌++◌, Memᴰ, append-nil}
use mathlib.Core.Logic.{◌≢◌, ◌⊎◌, inl, inr, ⊎_elim}
use mathlib.Core.Path.{◌≡◌, refl, sym, ap, subst, ◌∙◌}
use Prim.Native.Nat.{ℕ, zero, suc, ◌+◌, ◌≤◌, ◌<◌}
use lib.Dec.{eqb}
use lib.ListN.{length, length-append}
use native.Mathlib.Omega.{arith}
use Rattle.basics.specs.Lists.{All}
use Rattle.basics.specs.Maps.{upd}
use Rattle.basics.proofs.Lists.{all_append}
use Rattle.basics.proofs.Maps.{upd_same, upd-at, upd_other}
use Rattle.basics.proofs.Tests.{by_bool, by_eq, same_or, eqb_yes, eqb_no, eqb-self}
use Rattle.text.specs.declared.report.Entry.{Entry}
use Rattle.text.specs.declared.report.Of.{Of}
use Rattle.text.specs.declared.trace.Event.TheVariants.{Request, Response}
use Rattle.text.specs.declared.trace.Event.{Event}
use Rattle.model.specs.Batch.{log_of, first_of}
use Rattle.model.specs.Host.{logs_from, ofs_from}
use Rattle.model.specs.Machine.{Machine}
use Rattle.model.specs.PlainRun.{State, operations_of}
use Rattle.model.proofs.Trace.{Matching}

-- ── logs ──
pub log-append : (o : ℕ) (xs ys : List Entry) → log_of o (xs ++ ys) ≡ log_of o xs ++ log_of o ys
log-append o [] ys = refl
log-append o (l ∷ xs) ys = by_bool (eqb l.op.object o)
    (λ e. rw e (ap (λ t. l ∷ t) (log-append o xs ys)))
    (λ e. rw e (log-append o xs ys))

-- lines of one object
abbrev pub Own : ℕ → List Entry → Type 0
Own o ls = All (λ l. l.op.object ≡ o) ls

log-own : (o : ℕ) (ls : List Entry) → Own o ls → log_of o ls ≡ ls
log-own o [] h = refl
log-own o (l ∷ ls) h = rw (eqb_yes h.0) (ap (λ t. l ∷ t) (log-own o ls h.1))

log-other : (o k : ℕ) (ls : List Entry) → k ≢ o → Own k ls → log_of o ls ≡ []
log-other o k [] n h = refl
log-other o k (l ∷ ls) n h = rw (eqb_no {a = l.op.object} {b = o} (λ e. n (sym h.0 ∙ e))) (log-other o k ls n h.1)

module _ (logs : ℕ → List Entry) (own : (o : ℕ) → Own o (logs o)) where
  pub logs-out : (o k n : ℕ) → (o < k) ⊎ (k + n ≤ o) → log_of o (logs_from logs k n) ≡ []
  logs-out o k zero h = refl
  logs-out o k (suc n) h =
      let ne : k ≢ o = ⊎_elim (λ a e. omega arith) (λ a e. omega arith) h in
      log-append o (logs k) (logs_from logs (suc k) n)
      ∙ rw (log-other o k (logs k) ne (own k)) (logs-out o (suc k) n (⊎_elim (λ a. inl (omega arith)) (λ a. inr (omega arith)) h))

  pub logs-in : (o k n : ℕ) → k ≤ o → o < k + n → log_of o (logs_from logs k n) ≡ logs o
  logs-in o k zero a b = absurd (omega arith)
  logs-in o k (suc n) a b = log-append o (logs k) (logs_from logs (suc k) n) ∙ by_eq k o
      (λ e _.
      let mine : log_of o (logs k) ≡ logs k = log-own o (logs k) (subst (λ j. Own j (logs k)) e (own k)) in
      rw (mine, logs-out o (suc k) n (inl (omega arith))) (append-nil (logs k) ∙ ap logs e))
      (λ e _. rw (log-other o k (logs k) e (own k)) (logs-in o (suc k) n (omega arith) (omega arith)))

pub no-logs : (k n : ℕ) → logs_from (λ o. []) k n ≡ []
no-logs k zero = refl
no-logs k (suc n) = no-logs (suc k) n

-- ── one line more in an object's log ──
module _ (logs : ℕ → List Entry) (j : ℕ) (l : Entry) where
  abbrev pub more : ℕ → List Entry
  more = upd logs j (logs j ++ (l ∷ []))

  -- a fact of all lines
  pub all_more : (P : ℕ → Entry → Type 0) → ((q : ℕ) → All (P q) (logs q)) → P j l → (q : ℕ) → All (P q) (more q)
  all_more P h p q = same_or (λ q. All (P q) (more q)) j q
      (rw (upd_same logs j (logs j ++ (l ∷ []))) (all_append (P j) (logs j) (l ∷ []) (h j) (p, tt)))
      (λ n _. rw (upd_other logs (logs j ++ (l ∷ [])) n) (h q))

  -- the report is one line longer
  same-beyond : (i n : ℕ) → j < i → logs_from more i n ≡ logs_from logs i n
  same-beyond i zero h = refl
  same-beyond i (suc n) h = rw (upd_other logs {k = j} {j = i} (logs j ++ (l ∷ [])) (λ e. omega arith), same-beyond (suc i) n (omega arith))

  pub one-longer : (i n : ℕ) → i ≤ j → j < i + n → length (logs_from more i n) ≡ suc (length (logs_from logs i n))
  one-longer i zero a b = absurd (omega arith)
  one-longer i (suc n) a b = by_eq j i
      (λ e _.
      let q : logs_from more (suc i) n ≡ logs_from logs (suc i) n = same-beyond (suc i) n (omega arith) in
      let u : more i ≡ logs i ++ (l ∷ []) = upd-at logs (logs j ++ (l ∷ [])) e ∙ ap (λ j. logs j ++ (l ∷ [])) e in
      let rest = logs_from logs (suc i) n in
      rw (q, u) (omega (
        arith,
        length-append (logs i ++ (l ∷ [])) rest,
        length-append (logs i) (l ∷ []),
        length-append (logs i) rest,
      )))
      (λ e _. rw (upd_other logs (logs j ++ (l ∷ [])) e) (omega (
        arith,
        length-append (logs i) (logs_from more (suc i) n),
        length-append (logs i) (logs_from logs (suc i) n),
        one-longer (suc i) n (omega arith) (omega arith),
      )))

-- ── `of` lines ──
module _ (M : Machine) (s : State M) where
  pub ofs-matching : (es : List Event) (n : ℕ) → Matching es (ofs_from M s.phase n es)
  ofs-matching [] n = tt
  ofs-matching (Request r prog a b ∷ es) n = (refl, ofs-matching es (suc n))
  ofs-matching (Response r t v ∷ es) n = ofs-matching es n

  -- each is the first of its own group, with its request's operations
  abbrev pub Alone : ℕ → List Of → Of → Type 0
  Alone n xs x = (n ≤ x.group) × (first_of xs x.group ≡ x.rid) × (operations_of M (s.phase x.rid) ≡ x.count)

  pub ofs-alone : (es : List Event) (n : ℕ) (x : Of) → Memᴰ x (ofs_from M s.phase n es) → Alone n (ofs_from M s.phase n es) x
  ofs-alone [] n x m = absurd (Memᴰ.not-nil m)
  ofs-alone (Request r prog a b ∷ es) n x m = at (Memᴰ.cases_cons m) (ofs-alone es (suc n) x)
    where
      at : (x ≡ record { rid = r; group = n; count = operations_of M (s.phase r) }) ⊎ Memᴰ x (ofs_from M s.phase (suc n) es) →
          (Memᴰ x (ofs_from M s.phase (suc n) es) → Alone (suc n) (ofs_from M s.phase (suc n) es) x) →
          Alone n (ofs_from M s.phase n (Request r prog a b ∷ es)) x
      at (inl e) ih = subst (Alone n (ofs_from M s.phase n (Request r prog a b ∷ es))) (sym e) (omega arith, rw (eqb-self n), refl)
      at (inr m) ih =
          let h = ih m in
          (omega (arith, h.0), rw (eqb_no {a = n} {b = x.group} (λ i. omega (arith, h.0))) h.1, h.2)
  ofs-alone (Response r t v ∷ es) n x m = ofs-alone es n x m
