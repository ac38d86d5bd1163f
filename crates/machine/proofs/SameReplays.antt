-- Two machines that go on in the same way wherever a request comes give the same replays, and so the same verdicts.
use Rattle.std.proofs.Common.{◌≡◌, ℕ, zero, suc, Bool, true, false, cond, eqb, ◌↔◌, List, [], ◌∷◌, sym, refl, ap, ◌∙◌}
use mathlib.Core.Option.{Option, none, some}
use Rattle.basics.specs.Lists.{All}
use Rattle.text.specs.declared.report.Entry.{Entry}
use Rattle.text.specs.declared.report.Of.{Of}
use Rattle.text.specs.declared.report.Op.{Op}
use Rattle.text.specs.declared.trace.Event.TheVariants.{Request, Response}
use Rattle.text.specs.declared.trace.Event.{Event}
use Rattle.text.specs.Report.{Report}
use Rattle.text.specs.Text.{readable}
use Rattle.model.specs.Audit.{from4, bad10, bad11, bad12, replay_checks, audit}
use Rattle.model.specs.Requests.{row4}
use Rattle.model.specs.Batch.{Batch, claims, count_of, first_of}
use Rattle.model.specs.Checks.{first_fault, check, breaks}
use Rattle.model.specs.Demand.{Demand3}
use Rattle.model.specs.Machine.{Next, op, stop, Machine, applied}
use Rattle.model.specs.Replay.{
  Reply,
  silent,
  said,
  response_of,
  Outcome,
  differs,
  ended,
  Answer,
  wrong,
  right,
  Claim,
  unclaimed,
  by,
  claim,
  compare,
  finish,
  replay,
  request_of,
  replay_from,
  outcome,
}
use Rattle.model.proofs.Audited.{audit-rows}
use Rattle.model.proofs.Main.{audit-exactly}
use Rattle.model.proofs.Trace.{KnownIn, row4-order}
use Rattle.machine.specs.Instance.{Process, next_of, resumed_with, machine_by}
use Rattle.machine.specs.Objects.{Content}
use Rattle.machine.specs.Processes.{Advanced}

-- The two go on in the same way at every process that a request of a known program comes to.
pub record Agree (gone gone' : Process → Advanced) (known : ℕ → Bool) : Type 1 where
  pub At : Process → Type 0
  pub same : (p : Process) → At p → gone p ≡ gone' p
  pub starts : (prog a b : ℕ) → known prog ≡ true → At ((machine_by gone).start prog a b)
  pub stays : (p : Process) (o : Op) (v : ℕ) → At p → (machine_by gone).advance p ≡ op o → At ((machine_by gone).resume p v)

abbrev on_answer : Answer → (ℕ → Outcome) → Outcome
on_answer c f = elim c [ wrong ↦ differs | right v ↦ f v ]

answer-same : (c d : Answer) → c ≡ d → (f g : ℕ → Outcome) → ((v : ℕ) → f v ≡ g v) → on_answer c f ≡ on_answer d g
answer-same c d e f g h = ap (λ c. on_answer c f) e ∙ by d
  where
    by : (d : Answer) → on_answer d f ≡ on_answer d g
    by wrong = refl
    by (right v) = h v

module _ (gone gone' : Process → Advanced) where
  abbrev M : Machine
  M = machine_by gone

  abbrev N : Machine
  N = machine_by gone'

  -- ── claims ──
  abbrev moved : Claim M → Claim N
  moved unclaimed = unclaimed
  moved (by l c) = by l c

  claim-moved : (ls : List Entry) (c : ℕ → Content) (r k : ℕ) → moved (claim M ls c r k) ≡ claim N ls c r k
  claim-moved [] c r k = refl
  claim-moved (l ∷ ls) c r k = pick (claims r k l) (claim-moved ls (applied M c l.op) r k)
    where
      pick : (b : Bool) → moved (claim M ls (applied M c l.op) r k) ≡ claim N ls (applied N c l.op) r k →
          moved (cond b (by l (c l.op.object)) (claim M ls (applied M c l.op) r k))
          ≡ cond b (by l (c l.op.object)) (claim N ls (applied N c l.op) r k)
      pick true e = refl
      pick false e = e

  compare-moved : (o : Op) (x : Claim M) → compare M o x ≡ compare N o (moved x)
  compare-moved o unclaimed = refl
  compare-moved o (by l c) = refl

  -- ── the replay ──
  module _ (known : ℕ → Bool) (agree : Agree gone gone' known) where
    advance-same : (p : Process) → agree.At p → M.advance p ≡ N.advance p
    advance-same p h = ap (λ r. next_of r.stop.next) (agree.same p h)

    resume-same : (p : Process) → agree.At p → (v : ℕ) → M.resume p v ≡ N.resume p v
    resume-same p h v = ap (resumed_with p.prog v) (agree.same p h)

    finish-same : (a : Reply) (p : Process) (x : Next) → agree.At p → finish M a p x ≡ finish N a p x
    finish-same silent p x h = refl
    finish-same (said s v) p (op o) h = refl
    finish-same (said s v) p (stop s' v') h = ap (λ r. ended (said s' v') (p.prog ∷ r.path)) (agree.same p h)

    module _ (f : ℕ → Claim M) (g : ℕ → Claim N) (e : (k : ℕ) → moved (f k) ≡ g k) (a : Reply) where
      replay-same : (n k : ℕ) (p : Process) (x : Next) → agree.At p → M.advance p ≡ x → replay M f a n k p x ≡ replay N g a n k p x
      replay-same zero k p x h d = finish-same a p x h
      replay-same (suc n) k p (stop s v) h d = refl
      replay-same (suc n) k p (op o) h d =
          answer-same (compare M o (f k)) (compare N o (g k)) (compare-moved o (f k) ∙ ap (compare N o) (e k)) _ _
          (λ v.
          replay-same n (suc k) (M.resume p v) (M.advance (M.resume p v)) (agree.stays p o v h d) refl
          ∙ ap (λ x. replay N g a n (suc k) (M.resume p v) x) (advance-same (M.resume p v) (agree.stays p o v h d))
          ∙ ap (λ q. replay N g a n (suc k) q (N.advance q)) (resume-same p h v))

    module _ (opening : ℕ → Content) (b : Batch) where
      from-same : (r : ℕ) (es : List Event) → All (KnownIn known) es →
          replay_from M opening b r (request_of M es r) ≡ replay_from N opening b r (request_of N es r)
      from-same r [] h = refl
      from-same r (Response q status value ∷ es) h = from-same r es h.1
      from-same r (Request q prog x y ∷ es) h = pick (eqb q r) (from-same r es h.1)
        where
          pick : (c : Bool) → replay_from M opening b r (request_of M es r) ≡ replay_from N opening b r (request_of N es r) →
              replay_from M opening b r (cond c (some (M.start prog x y)) (request_of M es r))
              ≡ replay_from N opening b r (cond c (some (N.start prog x y)) (request_of N es r))
          pick false e = e
          pick true e =
              let p = M.start prog x y in
              let s = agree.starts prog x y h.0 in
              let a = response_of b.trace r in
              let n = count_of b.ofs r in
              replay-same (claim M b.log opening r) (claim N b.log opening r) (claim-moved b.log opening r) a n 1 p (M.advance p)
              s refl
              ∙ ap (λ z. replay N (claim N b.log opening r) a n 1 p z) (advance-same p s)

      module _ (h : All (KnownIn known) b.trace) where
        outcome-same : (r : ℕ) → outcome M opening b r ≡ outcome N opening b r
        outcome-same r = from-same r b.trace h

        pub replays-same : (n : ℕ) (xs : List Of) → replay_checks M opening b n xs ≡ replay_checks N opening b n xs
        replays-same n [] = refl
        replays-same n (x ∷ xs) =
            let o = outcome-same x.rid in
            let first = outcome-same (first_of b.ofs x.group) in
            let a = response_of b.trace x.rid in
            let rest = replays-same (suc n) xs in
            λ i.
            check 10 (breaks (bad10 (o i)) n)
            ∷ check 11 (breaks (bad11 a (o i)) n)
            ∷ check 12 (breaks (bad12 (first i) (o i)) n)
            ∷ rest i

      -- a batch with an unknown program is refused at row 4
      pub audit-same : audit M opening known b ≡ audit N opening known b
      audit-same =
          sym (audit-rows M opening known b.trace report) ∙ pick (row4 known b.trace) refl ∙ audit-rows N opening known b.trace report
        where
          report : Report
          report = record { ofs = b.ofs; log = b.log }

          pick : (o : Option ℕ) → row4 known b.trace ≡ o →
              first_fault (from4 M opening known b.trace (readable report)) ≡ first_fault (from4 N opening known b.trace (readable report))
          pick none e = rw (replays-same ((row4-order known b.trace).0 e).1 1 b.ofs) refl
          pick (some n) e = rw e

      pub demand-same : Demand3 M opening known b ↔ Demand3 N opening known b
      demand-same = (
        λ d. (audit-exactly N opening known b).0 (sym audit-same ∙ (audit-exactly M opening known b).1 d),
        λ d. (audit-exactly M opening known b).0 (audit-same ∙ (audit-exactly N opening known b).1 d),
      )
