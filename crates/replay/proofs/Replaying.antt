-- Laws of one request's replay: what each instruction does to it, and how it ends.
use Rattle.std.proofs.Common.{◌≡◌, ℕ, zero, suc, ◌+◌, ◌-◌, ◌%◌, ◌≤◌, ◌<◌, Bool, true, false, cond, ◌&&◌, eqb, List, [], ◌∷◌, ◌++◌, length, get_or, Option, Some, None, refl, sym, ap, subst, ◌∙◌, arith, add-one}
use Rattle.std.proofs.lemmas.List.{length_push}
use borrow.Author.Tests.{ne_eqb}
use Rattle.basics.proofs.Tests.{clash, by_bool, by_eq, eqb_yes}
use Rattle.text.specs.Programs.{no_instr}
use Rattle.text.specs.declared.programs.Instr.{Instr}
use Rattle.text.specs.declared.report.Op.{Op}
use Rattle.model.specs.Machine.{Machine, Next, op, stop}
use Rattle.model.specs.Replay.{Reply, silent, said, Outcome, differs, ended, Answer, wrong, right, Claim, compare, replay}
use Rattle.machine.specs.declared.instructions.Act.{Act}
use Rattle.machine.specs.declared.instructions.Act.TheVariants.{Goes, Asks, Replies}
use Rattle.machine.specs.declared.processes.Next.TheVariants.{Operation, Reply as Replying, Cut}
use Rattle.machine.specs.Instance.{Process, code_at, gone, next_of, resumed_with, machine_of}
use Rattle.machine.specs.Instructions.{effect, effect_of}
use Rattle.machine.specs.Processes.{advanced, stop_at, first_locals, limit, instr_at, resumed}
use Rattle.machine.proofs.Turns.{moved, asked, replied, cut_off}
use Rattle.replay.specs.Index.{Claimed}
use Rattle.replay.specs.Promises.{Setting, claimed_in, Answers, answered_as, replied_as, left_open, most_of, replay_of, Replays}
use Rattle.replay.specs.declared.lookups.Response.{Response}

abbrev reply_of : (status value : ℕ) → Option Response
reply_of s v = Some (record { status = s; value = v })

-- ── the definition of a replay, step by step ──
module _ (M : Machine) (f : ℕ → Claim M) (reply : Reply) where
  open M use {Process, advance, resume}

  abbrev replays : (n k : ℕ) → Process → Outcome
  replays n k p = replay M f reply n k p (advance p)

  -- behind an operation that was answered
  abbrev goes_on : (n k : ℕ) → Process → Answer → Outcome
  goes_on n k p a = elim a [ wrong ↦ differs | right u ↦ replays n (suc k) (resume p u) ]

  module _ (k : ℕ) (p : Process) where
    answered : (n : ℕ) (o : Op) (u : ℕ) → advance p ≡ op o → compare M o (f k) ≡ right u → replays (suc n) k p ≡ replays n (suc k)
        (resume p u)
    answered n o u e d = rw e (ap (goes_on n k p) d)

    unanswered : (n : ℕ) (o : Op) → advance p ≡ op o → compare M o (f k) ≡ wrong → replays (suc n) k p ≡ differs
    unanswered n o e d = rw e (ap (goes_on n k p) d)

    too_few : (n : ℕ) (s v : ℕ) → advance p ≡ stop s v → replays (suc n) k p ≡ differs
    too_few n s v e = rw e

-- behind its last operation a request that was left open goes no further, and any other comes to its end
module _ (M : Machine) (f : ℕ → Claim M) (k : ℕ) (p : M.Process) where
  open M use {advance, path_so_far, path_at_end}

  left : (reply : Reply) → left_open reply ≡ true → replays M f reply 0 k p ≡ ended silent (path_so_far p)
  left silent h = refl
  left (said s v) h = clash (cc)

  one_more : (reply : Reply) → left_open reply ≡ false → (o : Op) → advance p ≡ op o → replays M f reply 0 k p ≡ differs
  one_more silent h o e = clash (cc)
  one_more (said s v) h o e = rw e

  ends : (reply : Reply) → left_open reply ≡ false → (s v : ℕ) → advance p ≡ stop s v →
      replays M f reply 0 k p ≡ ended (said s v) (path_at_end p)
  ends silent h s v e = clash (cc)
  ends (said s' v') h s v e = rw e

-- Two processes that go on alike, unless they go no further.
module _ (M : Machine) (f : ℕ → Claim M) where
  open M use {Process, advance, resume, path_at_end}

  alike_next : (reply : Reply) (n k : ℕ) (p q : Process) (x : Next) → (left_open reply ≡ true → 0 < n) →
      ((u : ℕ) → resume p u ≡ resume q u) → path_at_end p ≡ path_at_end q → replay M f reply n k p x ≡ replay M f reply n k q x
  alike_next silent zero k p q x l h e = absurd (omega (arith, l refl))
  alike_next (said s v) zero k p q (op o) l h e = refl
  alike_next (said s v) zero k p q (stop s' v') l h e = ap (ended (said s' v')) e
  alike_next reply (suc n) k p q (op o) l h e = both (compare M o (f k))
    where
      both : (a : Answer) → ◌≡◌ {A = Outcome} (goes_on M f reply n k p a) (goes_on M f reply n k q a)
      both wrong = refl
      both (right u) = ap (λ p. replays M f reply n (suc k) p) (h u)
  alike_next reply (suc n) k p q (stop s' v') l h e = refl

  alike : (reply : Reply) (n k : ℕ) (p q : Process) → (left_open reply ≡ true → 0 < n) → ((u : ℕ) → resume p u ≡ resume q u) →
      path_at_end p ≡ path_at_end q → advance p ≡ advance q → replays M f reply n k p ≡ replays M f reply n k q
  alike reply n k p q l h e d = alike_next reply n k p q (advance p) l h e ∙ ap (replay M f reply n k q) d

-- ── a replay on its way ──
abbrev process : (prog : ℕ) (l : List ℕ) (at done : ℕ) → List ℕ → Process
process prog l at done path = record { prog = prog; locals = l; at = at; done = done; path = path }

-- it is never above the limit
most-within : (is_open : Bool) (k count done most : ℕ) → most ≡ most_of is_open k count done → done ≤ 256 → most ≤ 256
most-within is_open k count done most e h = by_bool (is_open && eqb k count)
    (λ t. omega (arith, rw t at e))
    (λ t. omega (arith, rw t at e))

-- two processes of one program that go on alike are replayed alike
same-gone : {held : Claimed} (w : Setting held) (rid : ℕ) (reply : Reply) (left k : ℕ) (p q : Process) →
    (left_open reply ≡ true → 0 < left) → p.prog ≡ q.prog → gone limit w.table p ≡ gone limit w.table q →
    replay_of w rid reply left k p ≡ replay_of w rid reply left k q
same-gone w rid reply left k p q l d e =
    alike (machine_of w.table) _ reply left k p q l
    (λ u. λ i. resumed_with (d i) u (e i)) (λ i. d i ∷ (e i).path) (ap (λ t. next_of t.stop.next) e)

module _ (held : Claimed) (rid count : ℕ) (is_open : Bool) (code : List Instr) (l₀ : List ℕ) where
  abbrev claimed : (w : Setting held) → ℕ → Claim (machine_of w.table)
  claimed w = claimed_in w rid

  -- what a replay of program `prog` from the start is
  abbrev Whole : Setting held → (prog : ℕ) → Reply → Outcome
  Whole w prog reply = replay_of w rid reply count 1 (process prog l₀ 0 0 [])

  pub record Going (l : List ℕ) (at done : ℕ) (positions : List ℕ) (k most : ℕ) : Type 0 where
    pub few : done ≤ 256
    pub bound : most ≡ most_of is_open k count done
    pub within : most ≤ 256
    pub counted : k ≤ count
    pub slower : k ≤ done
    pub room : length positions ≡ done
    pub goes : (w : Setting held) (prog : ℕ) (reply : Reply) → code_at w.table prog ≡ code → left_open reply ≡ is_open →
        replay_of w rid reply (count - k) (suc k) (process prog l at done (positions)) ≡ Whole w prog reply

  abbrev Ends : List ℕ → Option (Option Response) → Type 0
  Ends positions end = (a b : ℕ) → l₀ ≡ first_locals a b → Replays held rid count a b is_open code positions end

  module _ (l : List ℕ) (at done : ℕ) (positions : List ℕ) (k most : ℕ) (g : Going l at done positions k most) where
    abbrev here : ℕ → Process
    here prog = process prog l at done (positions)

    -- how the replay comes out from here on with so many operations left to do, of any program with this code and any response
    abbrev Comes : (left : ℕ) → (ℕ → Outcome) → Type 0
    Comes left x = (w : Setting held) (prog : ℕ) → code_at w.table prog ≡ code → (reply : Reply) → left_open reply ≡ is_open →
        replay_of w rid reply left (suc k) (here prog) ≡ x prog

    none_left : (x : ℕ → Outcome) → k ≡ count → Comes 0 x → Comes (count - k) x
    none_left x p c w prog d reply o = let z : count - k ≡ 0 = omega arith in rw z (c w prog d reply o)

    some_left : (x : ℕ → Outcome) → k < count → Comes (suc (count - (k + 1))) x → Comes (count - k) x
    some_left x h c w prog d reply o = let z : count - k ≡ suc (count - (k + 1)) = omega arith in rw z (c w prog d reply o)

    -- what the request does next
    abbrev Does : Next → Type 0
    Does y = (w : Setting held) (prog : ℕ) → code_at w.table prog ≡ code → (machine_of w.table).advance (here prog) ≡ y

    -- so it comes out from the start
    from_start : (x : ℕ → Outcome) → Comes (count - k) x → (a b : ℕ) → l₀ ≡ first_locals a b → (w : Setting held) (prog : ℕ)
        (reply : Reply) → code_at w.table prog ≡ code → left_open reply ≡ is_open →
        x prog ≡ replay_of w rid reply count 1 ((machine_of w.table).start prog a b)
    from_start x c a b e w prog reply d o =
        sym (c w prog d reply o) ∙ g.goes w prog reply d o ∙ ap (λ l. replay_of w rid reply count 1 (process prog l 0 0 [])) e

    -- a request that stops here with a reply: the report counts its operations, or it comes to its end before they are done
    stopping : (positions' : List ℕ) (reply' : Option Response) →
        (k ≡ count → Comes 0 (λ prog. ended (replied_as reply') (prog ∷ positions'))) →
        (s v : ℕ) → (k < count → Does (stop s v)) →
        (end : Option (Option Response)) → end ≡ cond (eqb k count) (Some reply') None → Ends positions' end
    stopping positions' reply' last s v next end e a b start = by_eq k count
        (λ p t.
        let c : end ≡ Some reply' = rw t at e in
        subst (Replays held rid count a b is_open code positions') (sym c) (record {
          outcome = from_start _ (none_left _ p (last p)) a b start;
        }))
        (λ p t.
        let c : end ≡ None = rw t at e in
        let h : k < count = omega (arith, g.counted) in
        subst (Replays held rid count a b is_open code positions') (sym c) (record {
          outcome = from_start _ (some_left (λ prog. differs) h (λ w prog d reply o.
              too_few (machine_of w.table) (claimed w) reply (suc k) (here prog) (count - (k + 1)) s v (next h w prog d))) a b start;
        }))

    -- a request that goes no further is left open behind its last operation, or has used up its instructions and is cut off
    pub going-no-further : most ≤ done → (reply' : Option Response) → reply' ≡ cond is_open None (reply_of 1 0) →
        (end : Option (Option Response)) → end ≡ cond (eqb k count) (Some reply') None → Ends positions end
    going-no-further h reply' r end e =
        stopping positions reply' (λ p. last) 1 0 (λ z w prog d. cuts w prog (early z)) end e
      where
        used : is_open ≡ false → 256 ≤ done
        used t = omega (arith, rw t at g.bound)

        early : k < count → 256 ≤ done
        early z = by_bool is_open (λ t. omega (arith, rw (t, ne_eqb k count (λ e. omega arith)) at g.bound)) used

        cut : (w : Setting held) (prog : ℕ) → 256 ≤ done →
            gone limit w.table (here prog) ≡ advanced l (stop_at at done Cut) (positions)
        cut w prog c = cut_off limit w.table (here prog) (omega arith)

        cuts : (w : Setting held) (prog : ℕ) → 256 ≤ done → (machine_of w.table).advance (here prog) ≡ stop 1 0
        cuts w prog c = ap (λ t. next_of t.stop.next) (cut w prog c)

        last : Comes 0 (λ prog. ended (replied_as reply') (prog ∷ positions))
        last w prog d reply o = by_bool is_open
            (λ t.
            let c : reply' ≡ None = rw t at r in
            rw c (left (machine_of w.table) (claimed w) (suc k) (here prog) reply (o ∙ t)))
            (λ t.
            let c : reply' ≡ reply_of 1 0 = rw t at r in
            rw c
            (ends (machine_of w.table) (claimed w) (suc k) (here prog) reply (o ∙ t) 1 0 (cuts w prog (used t))
            ∙ ap (λ t. ended (said 1 0) (prog ∷ t.path)) (cut w prog (used t))))

    module _ (h : done < most) (m : List ℕ) (x : Act) (e : effect_of l (get_or code (at % 64) no_instr) (at % 64 + 1) ≡ effect m x) where
      -- it has operations left to do, or was answered
      goes-on : (is_open && eqb k count) ≡ false
      goes-on = by_bool (is_open && eqb k count) (λ t. absurd (omega (arith, rw t at g.bound))) (λ t. t)

      unbound : most ≡ 256
      unbound = rw goes-on at g.bound

      answered-at : k ≡ count → is_open ≡ false
      answered-at p = by_bool is_open (λ t. let z = rw (t, eqb_yes p) at goes-on in clash (cc)) (λ t. t)

      open-left : is_open ≡ true → 0 < count - k
      open-left t = by_eq k count (λ p d. let z = rw (t, d) at goes-on in clash (cc)) (λ p d. omega (arith, g.counted))

      abbrev marked : List ℕ
      marked = positions ++ (at % 64) ∷ []

      room-marked : length marked ≡ done + 1
      room-marked = length_push positions (at % 64) ∙ omega (arith, g.room)

      does : (w : Setting held) (prog : ℕ) (y : Act) → code_at w.table prog ≡ code → x ≡ y →
          effect_of l (instr_at (code_at w.table prog) at) (at % 64 + 1) ≡ effect m y
      does w prog y d q = rw d (e ∙ ap (effect m) q)

      pub going-moved : (to : ℕ) → x ≡ Goes to → Going m to (done + 1) marked k most
      going-moved to q = record {
        few = omega (arith, unbound);
        bound = unbound ∙ sym (rw goes-on);
        within = g.within;
        counted = g.counted;
        slower = omega (arith, g.slower);
        room = room-marked;
        goes = λ w prog reply d o.
            sym (same-gone w rid reply (count - k) (suc k) (here prog) _ (λ t. open-left (sym o ∙ t)) refl
            (moved limit w.table (here prog) (omega (arith, unbound)) m to (does w prog (Goes to) d q)))
            ∙ g.goes w prog reply d o;
      }

      -- a fault at this instruction
      differing : Comes (count - k) (λ prog. differs) → Ends marked None
      differing f a b d = record {
        outcome = from_start (λ prog. differs) f a b d;
      }

      module _ (o : Op) (into : ℕ) (q : x ≡ Asks o into) where
        asks : (w : Setting held) (prog : ℕ) → code_at w.table prog ≡ code →
            gone limit w.table (here prog) ≡ advanced m (stop_at (at % 64 + 1) (done + 1) (Operation o into))
            (positions ++ (at % 64) ∷ [])
        asks w prog d = asked limit w.table (here prog) (omega (arith, unbound)) m o into (does w prog (Asks o into) d q)

        next : Does (op o)
        next w prog d = ap (λ t. next_of t.stop.next) (asks w prog d)

        pub going-over : count ≤ k → Ends marked None
        going-over z =
            let p : k ≡ count = omega (arith, g.counted) in
            differing (none_left (λ prog. differs) p (λ w prog d reply c.
            one_more (machine_of w.table) (claimed w) (suc k) (here prog) reply (c ∙ answered-at p) o (next w prog d)))

        module _ (low : k < count) where
          answer : (y z : Option ℕ) → Answers held rid (k + 1) o y → y ≡ z → (w : Setting held) →
              compare (machine_of w.table) o (claimed w (suc k)) ≡ answered_as z
          answer y z f p w =
              sym (subst (λ j. answered_as y ≡ compare (machine_of w.table) o (claimed w j)) (add-one k) (f w)) ∙ ap answered_as p

          pub going-wrong : (y : Option ℕ) → Answers held rid (k + 1) o y → y ≡ None → (end : Option (Option Response)) → end ≡ None → Ends marked end
          going-wrong y f p end q = subst (Ends marked) (sym q) (differing (some_left (λ prog. differs) low (λ w prog d reply c.
              unanswered (machine_of w.table) (claimed w) reply (suc k) (here prog) (count - (k + 1)) o (next w prog d)
              (answer y None f p w))))

          pub going-right : (y : Option ℕ) (u : ℕ) → Answers held rid (k + 1) o y → y ≡ Some u → (most' : ℕ) →
              most' ≡ most_of is_open (k + 1) count (done + 1) → Going (resumed m into u) (at % 64 + 1) (done + 1) marked (k + 1) most'
          going-right y u f p most' b = record {
            few = omega (arith, unbound);
            bound = b;
            within = most-within is_open (k + 1) count (done + 1) most' b (omega (arith, g.within));
            counted = omega arith;
            slower = omega (arith, g.slower);
            room = room-marked;
            goes = λ w prog reply d c.
                let r = process prog (resumed m into u) (at % 64 + 1) (done + 1) in
                let z : count - k ≡ suc (count - (k + 1)) = omega arith in
                let a : replay_of w rid reply (count - k) (suc k) (here prog)
                ≡ replay_of w rid reply (count - (k + 1)) (suc (suc k)) (r (positions ++ (at % 64) ∷ [])) =
                rw z
                (answered (machine_of w.table) (claimed w) reply (suc k) (here prog) (count - (k + 1)) o u (next w prog d)
                (answer y (Some u) f p w)
                ∙ ap (λ t. replay_of w rid reply (count - (k + 1)) (suc (suc k)) (resumed_with prog u t)) (asks w prog d)) in
                (λ i. replay_of w rid reply (count - (k + 1)) (suc (add-one k i)) (r marked)) ∙ sym a
                ∙ g.goes w prog reply d c;
          }

      -- a request that replies
      pub going-replied : (u : ℕ) → x ≡ Replies u → (end : Option (Option Response)) → end ≡ cond (eqb k count) (Some (reply_of 0 u)) None →
          Ends marked end
      going-replied u q end c =
          stopping marked (reply_of 0 u) last 0 u (λ h. next) end c
        where
          replies : (w : Setting held) (prog : ℕ) → code_at w.table prog ≡ code →
              gone limit w.table (here prog) ≡ advanced m (stop_at (at % 64 + 1) (done + 1) (Replying u)) (positions ++ (at % 64) ∷ [])
          replies w prog d = replied limit w.table (here prog) (omega (arith, unbound)) m u (does w prog (Replies u) d q)

          next : Does (stop 0 u)
          next w prog d = ap (λ t. next_of t.stop.next) (replies w prog d)

          last : k ≡ count → Comes 0 (λ prog. ended (said 0 u) (prog ∷ marked))
          last p w prog d reply o =
              ends (machine_of w.table) (claimed w) (suc k) (here prog) reply (o ∙ answered-at p) 0 u (next w prog d)
              ∙ ap (λ path. ended (said 0 u) (prog ∷ path)) (ap (λ t. t.path) (replies w prog d))
