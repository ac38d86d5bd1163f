-- The line that claims an operation, at the objects as the lines above it leave them, and its answer.
use Rattle.std.proofs.Common.{◌≡◌, ℕ, zero, suc, ◌+◌, ◌≤◌, ◌<◌, Bool, true, false, cond, List, [], ◌∷◌, length, get_or, take, drop, Option, Some, None, position, refl, sym, ap, ◌∙◌, arith}
use Rattle.std.specs.Bool.{then_some}
use Rattle.std.specs.Option.{option_map}
use Rattle.std.proofs.lemmas.List.{get_or-take, take_all}
use Rattle.std.proofs.lemmas.List.Quantifiers.{position-Some}
use Rattle.std.proofs.Math.Seq.{sets, sets-eq, take-append_seam}
use Rattle.basics.proofs.Tests.{by_bool}
use Rattle.text.specs.declared.programs.Program.{Program}
use Rattle.text.specs.declared.report.Entry.{Entry}
use Rattle.text.specs.declared.report.Op.{Op}
use Rattle.model.specs.Batch.{claims}
use Rattle.model.specs.Replay.{Claim, unclaimed, by, claim, compare, same_op, Answer, wrong, right}
use Rattle.model.proofs.Equal.{same_op_lem}
use Rattle.machine.specs.Instance.{machine_of}
use Rattle.machine.specs.Held.{AnswersAll}
use Rattle.machine.specs.declared.objects.Objects.{Objects}
use Rattle.machine.specs.Logs.{after, after_all, answers_from}
use Rattle.machine.specs.Objects.{Content, apply, shown}
use Rattle.machine.specs.Redone.{apply_shown}
use Rattle.machine.proofs.LogLaws.{after-upd, answers-length}
use Rattle.replay.specs.Held.{no_entry}
use Rattle.replay.specs.Index.{Claimed}
use Rattle.replay.proofs.Places.{position-here, position-next}
use Rattle.replay.specs.Promises.{PreparedFrom, answered_as, Answers}

-- ── the claim ──
module _ (table : List Program) (r k : ℕ) where
  -- one line more at the front
  step : (c : ℕ → Content) (l : Entry) (ls : List Entry) →
      claim (machine_of table) (l ∷ ls) c r k ≡ cond (claims r k l) (by l (c l.op.object)) (claim (machine_of table) ls (after c l.op) r k)
  step c l ls =
      ap (λ d. cond (claims r k l) (by l (c l.op.object)) (claim (machine_of table) ls d r k)) (after-upd c l.op)

  -- the line that is claimed, with what the lines above it leave
  abbrev claim_at : List Entry → (ℕ → Content) → Option ℕ → Claim (machine_of table)
  claim_at log c None = unclaimed
  claim_at log c (Some i) = let l = get_or log i no_entry in by l (after_all c (take i log) l.op.object)

  -- behind a line that is not it
  behind : (l : Entry) (ls : List Entry) (c : ℕ → Content) (i : Option ℕ) →
      claim_at ls (after c l.op) i ≡ claim_at (l ∷ ls) c (option_map suc i)
  behind l ls c None = refl
  behind l ls c (Some i) = refl

  pub claim-is : (log : List Entry) (c : ℕ → Content) → claim (machine_of table) log c r k ≡ claim_at log c (position (claims r k) log)
  claim-is [] c = refl
  claim-is (l ∷ ls) c = step c l ls ∙ by_bool (claims r k l)
      (λ e. rw (position-here (claims r k) l ls e, e))
      (λ e.
      ap (λ b. cond b (by l (c l.op.object)) (claim (machine_of table) ls (after c l.op) r k)) e
      ∙ claim-is ls (after c l.op) ∙ behind l ls c (position (claims r k) ls)
      ∙ ap (claim_at (l ∷ ls) c) (sym (position-next (claims r k) l ls e)))

-- ── an operation held against it ──
-- the operation as its line would show it with the answer v, against the line
abbrev compared : Op → Entry → (v : ℕ) → Answer
compared o l v = cond (same_op l.op (shown o v)) (right v) wrong

module _ (o : Op) (l : Entry) (c : Content) where
  -- a line that is the operation's, whatever value a read shows in it, answers what the operation does
  same_answer : (v : ℕ) → same_op l.op (shown o v) ≡ true → (apply l.op c).0 ≡ (apply o c).0
  same_answer v e = ap (λ p. (apply p c).0) (same_op_lem l.op (shown o v) e) ∙ ap (λ z. z.0) (apply_shown o v c)

  -- so it comes to the same with the answer of either
  compared-alike : compared o l (apply l.op c).0 ≡ compared o l (apply o c).0
  compared-alike = by_bool (same_op l.op (shown o (apply l.op c).0))
      (λ e. ap (compared o l) (same_answer _ e))
      (λ e. by_bool (same_op l.op (shown o (apply o c).0)) (λ d. ap (compared o l) (same_answer _ d)) (λ d. rw (d, e)))

-- ── the answers of all lines ──
answer-at : (log : List Entry) (c : ℕ → Content) (i : ℕ) (d : Entry) → i < length log →
    get_or (answers_from c log) i 0 ≡ (apply (get_or log i d).op (after_all c (take i log) (get_or log i d).op.object)).0
answer-at [] c i d h = absurd (omega arith)
answer-at (l ∷ ls) c zero d h = refl
answer-at (l ∷ ls) c (suc i) d h = answer-at ls (after c l.op) i d (omega arith)

module _ (c : Claimed) (r k : ℕ) (o : Op) where
  pub answers-none : position (claims r k) c.log ≡ None → (x : Option ℕ) → x ≡ None → Answers c r k o x
  answers-none p x e w = rw (e, claim-is w.table r k c.log w.opening, p)

  pub answers-some : (i : ℕ) → position (claims r k) c.log ≡ Some i → (x : Option ℕ) →
      x ≡ then_some (same_op (get_or c.log i no_entry).op (shown o (get_or c.answers i 0))) (get_or c.answers i 0) → Answers c r k o x
  answers-some i p x e w =
      let l = get_or c.log i no_entry in
      let v = get_or c.answers i 0 in
      let h = after_all w.opening (take i c.log) l.op.object in
      let a : v ≡ (apply l.op h).0 =
      sym (get_or-take (length c.log) c.answers i 0 (position-Some (claims r k) c.log i no_entry p).0)
      ∙ ap (λ vs. get_or vs i 0) w.answered
      ∙ answer-at c.log w.opening i no_entry (position-Some (claims r k) c.log i no_entry p).0 in
      ap answered_as e ∙ shows (same_op l.op (shown o v)) v
      ∙ ap (compared o l) a ∙ compared-alike o l h
      ∙ sym (ap (compare (machine_of w.table) o) (claim-is w.table r k c.log w.opening ∙ ap (claim_at w.table r k c.log w.opening) p))
    where
      shows : (b : Bool) (v : ℕ) → answered_as (then_some b v) ≡ cond b (right v) wrong
      shows true v = refl
      shows false v = refl

pub answers-prepared : (o o' : Objects) (before answers : List ℕ) (log : List Entry) → length log ≤ 1024 →
    AnswersAll o (take 1024 log) before o' answers → length before ≡ 1024 →
    PreparedFrom o log (record { log = log; answers = answers })
answers-prepared o o' before answers log few a room = record {
  lines = refl;
  answered = λ opening h low.
      let m : take 1024 log ≡ log = take_all 1024 log few in
      let vs = answers_from opening log in
      let size : length vs ≡ length log = answers-length opening log in
      let d : answers ≡ sets before 0 vs = (rw m at a opening h (omega (arith, ap length m))).answers in
      ap (take (length log)) (d ∙ sets-eq vs before 0 (omega arith)) ∙ rw (← size) (take-append_seam vs (drop (0 + length vs) before));
}
