-- The replay of all requests, one after the other: the first fault of rows 10 to 12.
use Rattle.std.proofs.Common.{◌≡◌, ◌≢◌, ℕ, suc, ◌+◌, ◌≤◌, ◌<◌, Bool, true, false, cond, not, eqb, ltb, lt-ltb, List, [], ◌∷◌, ◌++◌, length, get_or, drop, Option, Some, None, Result, Ok, Err, position, unwrap_or, ◌==◌, refl, sym, ap, subst, ◌∙◌, arith}
use Rattle.std.proofs.Math.Option.{none, some}
use Rattle.std.proofs.Math.Option as Math
use Rattle.std.proofs.lemmas.List.{length_push, get_or_push, get_or_past, drop_more, drop_all}
use Rattle.std.proofs.Math.ListN.{get_or-append}
use Rattle.std.proofs.lemmas.List.Sums.{fails_before_first}
use Rattle.std.specs.List.{position_or_len}
use borrow.Author.Tests.{ltb-true, ltb-false}
use Rattle.std.specs.Option.{is_some, option_map}
use Rattle.basics.proofs.Tests.{clash, by_bool, by_eq, eqb-self}
use Rattle.text.specs.Held.{no_of, of_at}
use Rattle.text.specs.declared.programs.Program.{Program}
use Rattle.text.specs.declared.report.Entry.{Entry}
use Rattle.text.specs.declared.report.Of.{Of}
use Rattle.text.specs.declared.trace.Event.{Event}
use Rattle.model.specs.Audit.{same_path, replay_checks}
use Rattle.model.specs.Batch.{Batch, first_of}
use Rattle.model.specs.Checks.{Check, first_fault, verdict}
use Rattle.model.specs.Replay.{Reply, response_of, Outcome, ended, replay, replay_from, outcome, claim}
use Rattle.machine.specs.Instance.{Process, machine_of}
use Rattle.machine.specs.Objects.{Content}
use Rattle.replay.specs.Index.{Claimed}
use Rattle.replay.specs.Judges.{Ready}
use Rattle.replay.specs.Promises.{replied_as, left_open, AnsweredFrom, outcome_of, replayed, way, ReplaysRequest, row_by, JudgesRequests}
use Rattle.replay.specs.declared.batch.Fault.{Fault}
use Rattle.replay.specs.declared.lookups.Response.{Response}
use Rattle.replay.specs.declared.paths.Path.{Path}
use Rattle.replay.proofs.Looking.{open-is, ready-table, counted_is}
use Rattle.replay.proofs.Places.{position-here, position-next}
use Rattle.replay.proofs.Rows.{row_of, checks_of, row-differs, row-ends, row-none, row-some}

abbrev pub batch_of : List Event → List Of → List Entry → Batch
batch_of trace ofs log = record { trace = trace; ofs = ofs; log = log }

by_option : {A : Type 0} {P : Type 0} (o : Option A) → (o ≡ None → P) → ((x : A) → o ≡ Some x → P) → P
by_option None f g = f refl
by_option (Some x) f g = g x refl

-- ── the first `of` line of a group ──
module _ (g : ℕ) where
  abbrev is_of : Of → Bool
  is_of x = x.group == g

  rid_at : List Of → Option ℕ → ℕ
  rid_at ofs None = 0
  rid_at ofs (Some i) = (of_at ofs i).rid

  further : (x : Of) (xs : List Of) (i : Option ℕ) → rid_at xs i ≡ rid_at (x ∷ xs) (option_map suc i)
  unfolding rid_at
  further x xs None = refl
  further x xs (Some i) = refl

  first-at : (ofs : List Of) → first_of ofs g ≡ rid_at ofs (position is_of ofs)
  unfolding rid_at
  first-at [] = refl
  first-at (x ∷ xs) = by_bool (eqb x.group g)
      (λ e. rw (position-here is_of x xs e, e))
      (λ e.
      rw e (first-at xs) ∙ further x xs (position is_of xs)
      ∙ ap (rid_at (x ∷ xs)) (sym (position-next is_of x xs e)))

-- line k has one, which is not behind it
module _ (ofs : List Of) (k f : ℕ) (low : k < length ofs)
    (e : f ≡ unwrap_or (position (λ x. x.group == (of_at ofs k).group) ofs) k) where
  abbrev g : ℕ
  g = (of_at ofs k).group

  abbrev place : ℕ
  place = position_or_len (is_of g) ofs

  place-low : place ≤ k
  place-low = by_bool (ltb k place)
      (λ t. clash
      (let h = fails_before_first (is_of g) ofs k no_of (ltb-true k place t) in
      let o = eqb-self g in
      cc))
      (λ t. ltb-false k place t)

  place-is : position (is_of g) ofs ≡ Some place
  place-is = rw (lt-ltb place (length ofs) (omega (arith, place-low)))

  first-place : f ≡ place
  first-place = e ∙ ap (λ i. unwrap_or i k) place-is

  first-low : f ≤ k
  first-low = omega (arith, first-place, place-low)

  first-rid : first_of ofs g ≡ (of_at ofs f).rid
  unfolding rid_at
  first-rid = first-at g ofs ∙ ap (rid_at g ofs) place-is ∙ ap (λ i. (of_at ofs i).rid) (sym first-place)

module _ (table : List Program) (b : Batch) (c : Claimed) where
  open b use {trace, ofs}

  -- what is known of the batch and of the answers
  pub record Known : Type 0 where
    pub known : ℕ → Bool
    pub ready : Ready known b
    pub lines : c.log ≡ b.log
    pub opening : ℕ → Content
    pub answered : AnsweredFrom opening c

  abbrev outcomes : Known → ℕ → Outcome
  outcomes n k = outcome (machine_of table) n.opening b (of_at ofs k).rid

  -- the checks of the requests from slot k on
  abbrev checks_from : Known → ℕ → List Check
  checks_from n k = replay_checks (machine_of table) n.opening b (suc k) (drop k ofs)

  -- the requests below slot k broke no row, and their ways are kept
  pub record Judging (paths : List Path) (k : ℕ) : Type 0 where
    pub few : length ofs ≤ 64
    pub room : length paths ≡ k
    pub kept : (n : Known) (j : ℕ) (d : Path) → j < k → (reply : Reply) × (outcomes n j ≡ ended reply (way (get_or paths j d)))
    pub rest : (n : Known) → first_fault (replay_checks (machine_of table) n.opening b 1 ofs) ≡ first_fault (checks_from n k)

  pub judging-start : (paths : List Path) → length ofs ≤ 64 → paths ≡ [] → Judging paths 0
  judging-start paths few e = record {
    few = few;
    room = ap length e;
    kept = λ n j d h. absurd (omega arith);
    rest = λ n. refl;
  }

  -- what was looked up and replayed for the request in slot k, and the row that it breaks
  pub record Step (k f : ℕ) (paths : List Path) (path : Path) (row : Option ℕ) : Type 0 where
    pub reply : Option Response
    pub is_open : Bool
    pub end : Option (Option Response)
    pub same : Bool
    pub group : f ≡ unwrap_or (position (λ x. x.group == (of_at ofs k).group) ofs) k
    pub replies : replied_as reply ≡ response_of trace (of_at ofs k).rid
    pub opened : is_some reply ≡ not is_open
    pub replays : ReplaysRequest table trace (of_at ofs k) is_open c path end
    pub same_is : same ≡ same_path (way path) (way (get_or paths f path))
    pub row_is : row ≡ row_by end reply same

  module _ (k f : ℕ) (paths : List Path) (path : Path) (row : Option ℕ) (j : Judging paths k) (low : k < length ofs)
      (w : Step k f paths path row) where
    abbrev paths' : List Path
    paths' = paths ++ path ∷ []

    -- the way in slot k is the last, and the others stand before it
    own-path : (d : Path) → get_or paths' k d ≡ path
    own-path d = get_or_push paths path d k j.room

    kept-path : (i : ℕ) (d : Path) → i < k → get_or paths' i d ≡ get_or paths i d
    kept-path i d h = get_or-append paths (path ∷ []) d i (omega (arith, j.room))

    module _ (n : Known) where
      replayed-is : (o : Math.Option Process) → replayed table c n.opening (of_at ofs k) (response_of trace (of_at ofs k).rid) o
          ≡ replay_from (machine_of table) n.opening b (of_at ofs k).rid o
      replayed-is none = refl
      replayed-is (some p) =
          let l = n.lines in
          let q = counted_is n.known b n.ready k low in
          λ i. replay (machine_of table) (claim (machine_of table) (l i) n.opening (of_at ofs k).rid)
          (response_of trace (of_at ofs k).rid) (sym q i) 1 p ((machine_of table).advance p)

      outcome-is : outcomes n k ≡ outcome_of w.end (way path)
      outcome-is =
          let r = (of_at ofs k).rid in
          sym (w.replays.outcome (ready-table n.known b n.ready r) n.opening n.answered (response_of trace r)
          (ap left_open (sym w.replies) ∙ open-is w.reply w.is_open w.opened)
          ∙ replayed-is _)

      kept_more : (e : Option Response) → w.end ≡ Some e → (i : ℕ) (d : Path) → i ≤ k →
          (reply : Reply) × (outcomes n i ≡ ended reply (way (get_or paths' i d)))
      kept_more e q i d h = by_eq i k
          (λ p _. subst (λ i. (reply : Reply) × (outcomes n i ≡ ended reply (way (get_or paths' i d)))) (sym p)
          (replied_as e, outcome-is ∙ ap (λ x. outcome_of x (way path)) q ∙ ap (λ x. ended (replied_as e) (way x)) (sym (own-path d))))
          (λ p _.
          let g = j.kept n i d (omega arith) in
          (g.0, g.1 ∙ ap (λ x. ended g.0 (way x)) (sym (kept-path i d (omega arith)))))

      -- the way of the first of the group
      first-way : get_or paths f path ≡ get_or paths' f path
      first-way = by_eq f k
          (λ p _. get_or_past paths f path (omega (arith, j.room)) ∙ sym (ap (λ i. get_or paths' i path) p ∙ own-path path))
          (λ p _. sym (kept-path f path (omega (arith, first-low ofs k f low w.group))))

      -- the row that was found is the row of the definitions
      abbrev response : Reply
      response = response_of trace (of_at ofs k).rid

      abbrev first_outcome : Outcome
      first_outcome = outcome (machine_of table) n.opening b (first_of ofs (of_at ofs k).group)

      row-real : row ≡ row_of (outcomes n k) response first_outcome
      row-real =
          w.row_is
          ∙ by_option w.end
          (λ q. row-differs (way path) w.reply w.same w.end q first_outcome)
          (λ e q.
          let g = kept_more e q f path (first-low ofs k f low w.group) in
          let o : first_outcome ≡ ended g.0 (way (get_or paths' f path)) =
          ap (outcome (machine_of table) n.opening b) (first-rid ofs k f low w.group) ∙ g.1 in
          row-ends (way path) w.reply w.same w.end e q g.0 (way (get_or paths' f path))
          (w.same_is ∙ ap (λ x. same_path (way path) (way x)) first-way)
          ∙ ap (row_of (outcome_of w.end (way path)) (replied_as w.reply)) (sym o))
          ∙ (λ i. row_of (sym outcome-is i) (w.replies i) first_outcome)

      checks-split : checks_from n k ≡ checks_of (outcomes n k) response first_outcome (suc k) (checks_from n (k + 1))
      checks-split =
          let e : suc k ≡ k + 1 = omega arith in
          ap (replay_checks (machine_of table) n.opening b (suc k)) (drop_more ofs k no_of low)
          ∙ ap (λ i. checks_of (outcomes n k) response first_outcome (suc k)
          (replay_checks (machine_of table) n.opening b (suc i) (drop (k + 1) ofs))) e

    pub judging-stop : (r : ℕ) → row ≡ Some r → JudgesRequests table b c (Err (record { row = r; line = k + 1 }))
    judging-stop r z known ready lines opening answered =
        let n : Known = record { known = known; ready = ready; lines = lines; opening = opening; answered = answered } in
        let e : k + 1 ≡ suc k = omega arith in
        ap (verdict r) e
        ∙ row-some (outcomes n k) (response n) (first_outcome n) (suc k) (checks_from n (k + 1)) r (sym z ∙ row-real n)
        ∙ sym (j.rest n ∙ ap first_fault (checks-split n))

    pub judging-next : row ≡ None → Judging paths' (k + 1)
    judging-next z = record {
      few = j.few;
      room = length_push paths path ∙ ap (λ i. i + 1) j.room;
      kept = λ n i d h. by_option w.end
          (λ q.
          let e : None ≡ Some 10 = sym z ∙ w.row_is ∙ ap (λ e. row_by e w.reply w.same) q in
          clash (cc))
          (λ e q. kept_more n e q i d (omega arith));
      rest = λ n.
          j.rest n ∙ ap first_fault (checks-split n)
          ∙ row-none (outcomes n k) (response n) (first_outcome n) (suc k) (checks_from n (k + 1)) (sym (row-real n) ∙ z);
    }

  pub judging-end : (k : ℕ) (paths : List Path) → Judging paths k → length ofs ≤ k → JudgesRequests table b c (Ok tt)
  judging-end k paths j h known ready lines opening answered =
      let n : Known = record { known = known; ready = ready; lines = lines; opening = opening; answered = answered } in
      sym (j.rest n ∙ ap (λ xs. first_fault (replay_checks (machine_of table) opening b (suc k) xs)) (drop_all k ofs h))

pub judges_same : (table : List Program) (a b : Batch) → a ≡ b → (c : Claimed) (r : Result (Unit {0}) Fault) → JudgesRequests table a c r →
    JudgesRequests table b c r
judges_same table a b e c r = subst (λ b. JudgesRequests table b c r) e

-- a row that a request breaks is one of the table
pub row-not_0 : (end : Option (Option Response)) (reply : Option Response) (same_way : Bool) (row : ℕ) → row_by end reply same_way ≡ Some row → row ≢ 0
row-not_0 None reply same row e z = clash (omega (arith, ap (λ o. unwrap_or o 0) e, z))
row-not_0 (Some x) reply same row e z = tested _ same e
  where
    tested : (differs same : Bool) → cond differs (Some 11) (cond same None (Some 12)) ≡ Some row → ⊥
    tested true same e = omega (arith, ap (λ o. unwrap_or o 0) e, z)
    tested false true e = clash (cc)
    tested false false e = omega (arith, ap (λ o. unwrap_or o 0) e, z)
