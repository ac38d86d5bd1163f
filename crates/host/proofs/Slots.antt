-- Laws of the requests as they are kept: one opens in the next slot, and one goes on or closes in its own.
use Rattle.std.proofs.Common.{◌≡◌, ◌≢◌, ℕ, zero, suc, ◌+◌, ◌≤◌, ◌<◌, true, false, List, [], ◌∷◌, ◌++◌, length, map, get_or, set, refl, sym, ap, subst, ◌∙◌, arith, length-append, length-set, get_or-set_same, get_or-set_other}
use Rattle.std.proofs.Math.ListN.{get_or-append}
use Rattle.std.proofs.Math.Seq.{get_or-append_seam}
use Rattle.std.proofs.lemmas.List.{map-append}
use Rattle.basics.specs.Maps.{upd}
use Rattle.basics.proofs.Maps.{upd-at, upd_other}
use Rattle.basics.proofs.Tests.{clash, by_eq}
use Rattle.text.specs.declared.programs.Program.{Program}
use Rattle.text.specs.declared.report.Of.{Of}
use Rattle.text.specs.declared.trace.Event.TheVariants.{Request, Response}
use Rattle.text.specs.declared.trace.Event.{Event}
use Rattle.model.specs.PlainRun.{Phase, absent, opened, closed}
use Rattle.machine.specs.Instance.{Process}
use Rattle.host.specs.Moves.{begun, of_line}
use Rattle.host.specs.Requests.{state_at}
use Rattle.text.specs.Held.{of_at}
use Rattle.host.specs.Runs.{missing, going, over, seen_state, seen_slot, rids_of, SlotIs, M, seen, RequestsIs}
use Rattle.host.specs.declared.requests.State.{State}

-- ── only slot s changes, and the slots behind those of the requests that there were ──
pub record Changed (states : List State) (ofs : List Of) (states' : List State) (ofs' : List Of) (s : ℕ) : Type 0 where
  pub state : (q : ℕ) → q < length ofs → q ≢ s → state_at states' q ≡ state_at states q
  pub own : (q : ℕ) → q < length ofs → q ≢ s → of_at ofs' q ≡ of_at ofs q

module _ (states : List State) (ofs : List Of) (states' : List State) (ofs' : List Of) (s : ℕ) (c : Changed states ofs states' ofs' s) where
  slot_same : (n : ℕ) → ((q : ℕ) → n ≡ suc q → (q < length ofs) × (q ≢ s)) → seen_slot states' ofs' n ≡ seen_slot states ofs n
  slot_same zero h = refl
  slot_same (suc q) h =
      let g = h q refl in
      let v = c.state q g.0 g.1 in
      let x = c.own q g.0 g.1 in
      λ i. seen_state (v i) (x i).count

  row_same : (n k k' : ℕ) (slots slots' : List ℕ) (q : ℕ) → q < length ofs → q ≢ s → k ≤ k' →
      get_or slots' (of_at ofs q).rid 0 ≡ get_or slots (of_at ofs q).rid 0 → SlotIs n slots states ofs k q → SlotIs n slots' states' ofs' k' q
  row_same n k k' slots slots' q h ne le e g =
      let x = c.own q h ne in
      let v = c.state q h ne in
      record {
        rid = subst (λ x. x.rid < 65536) (sym x) g.rid;
        slot = subst (λ x. get_or slots' x.rid 0 ≡ suc q) (sym x) (e ∙ g.slot);
        group = ap (λ x. x.group) x ∙ g.group;
        few = omega (arith, g.few, ap (λ x. x.count) x, le);
        program = subst (λ v. v.prog < n) (sym v) g.program;
      }

rids-request : (trace : List Event) (r prog a b : ℕ) → rids_of (trace ++ Request r prog a b ∷ []) ≡ rids_of trace ++ r ∷ []
rids-request [] r prog a b = refl
rids-request (Request q p x y ∷ es) r prog a b = ap (λ rs. q ∷ rs) (rids-request es r prog a b)
rids-request (Response q t v ∷ es) r prog a b = rids-request es r prog a b

pub rids-response : (trace : List Event) (r status value : ℕ) → rids_of (trace ++ Response r status value ∷ []) ≡ rids_of trace
rids-response [] r status value = refl
rids-response (Request q p x y ∷ es) r status value = ap (λ rs. q ∷ rs) (rids-response es r status value)
rids-response (Response q t v ∷ es) r status value = rids-response es r status value

module _ (table : List Program) where
  -- ── what is kept says of a phase ──
  pub absent-seen : (f : Phase (M table)) → seen table f ≡ missing → f ≡ absent
  absent-seen absent e = refl
  absent-seen (opened p k) e = clash (cc)
  absent-seen (closed w k) e = clash (cc)

  pub record IsOpened (f : Phase (M table)) (x : State) (k : ℕ) : Type 0 where
    pub process : Process
    pub phase : f ≡ opened process k
    pub prog : process.prog ≡ x.prog
    pub locals : process.locals ≡ x.locals
    pub at : process.at ≡ x.at
    pub done : process.done ≡ x.done

  pub opened-seen : (f : Phase (M table)) (x : State) (k : ℕ) → seen table f ≡ seen_state x k → x.is_open ≡ true → IsOpened f x k
  opened-seen f x k e t = by f (e ∙ rw t refl)
    where
      by : (f : Phase (M table)) → seen table f ≡ going x.prog x.locals x.at x.done k → IsOpened f x k
      by absent e = clash (cc)
      by (opened p j) e =
          let d : j ≡ k = cc in
          record { process = p; phase = ap (opened p) d; prog = cc; locals = cc; at = cc; done = cc }
      by (closed w j) e = clash (cc)

  pub closed-seen : (f : Phase (M table)) (x : State) (k : ℕ) → seen table f ≡ seen_state x k → x.is_open ≡ false →
      (w : List ℕ) × (f ≡ closed w k)
  closed-seen f x k e t = by f (e ∙ rw t refl)
    where
      by : (f : Phase (M table)) → seen table f ≡ over k → (w : List ℕ) × (f ≡ closed w k)
      by absent e = clash (cc)
      by (opened p j) e = clash (cc)
      by (closed w j) e = let d : j ≡ k = cc in (w, ap (closed w) d)

  module _ (slots : List ℕ) (states : List State) (ofs : List Of) (k : ℕ) (phase : ℕ → Phase (M table)) (trace : List Event)
      (g : RequestsIs table slots states ofs k phase trace) where
    abbrev m : ℕ
    m = length ofs

    -- ── a request opens in the next slot ──
    module _ (r prog a b : ℕ) (rid : r < 65536) (known : prog < length table) (new : get_or slots r 0 ≡ 0) (h : m < 64) where
      abbrev slots' : List ℕ
      slots' = set slots r (length states + 1)

      abbrev states' : List State
      states' = states ++ begun prog a b ∷ []

      abbrev ofs' : List Of
      ofs' = ofs ++ of_line r (length states) 0 ∷ []

      abbrev next : Phase (M table)
      next = opened ((M table).start prog a b) 0

      same-place : length states ≡ m
      same-place = g.as_many

      c : Changed states ofs states' ofs' m
      c =
          record {
            state = λ q i n. get_or-append states _ _ q (omega (arith, i, same-place));
            own = λ q i n. get_or-append ofs _ _ q i;
          }

      own : of_at ofs' m ≡ of_line r m 0
      own = get_or-append_seam ofs _ [] _ ∙ ap (λ s. of_line r s 0) same-place

      state : state_at states' m ≡ begun prog a b
      state = ap (state_at states') (sym same-place) ∙ get_or-append_seam states _ [] _

      slot : get_or slots' r 0 ≡ suc m
      slot = get_or-set_same slots r (length states + 1) 0 (omega (arith, g.slots_room)) ∙ omega (arith, same-place)

      other : (q : ℕ) → q ≢ r → get_or slots' q 0 ≡ get_or slots q 0
      other q n = get_or-set_other slots r q (length states + 1) 0 n

      -- a rid that has a slot is another one
      not_new : (q s : ℕ) → get_or slots q 0 ≡ suc s → q ≢ r
      not_new q s e d = absurd (omega (arith, sym e ∙ ap (λ q. get_or slots q 0) d ∙ new))

      its-phase : seen table next ≡ seen_slot states' ofs' (get_or slots' r 0)
      its-phase = sym (ap (seen_slot states' ofs') slot ∙ (λ i. seen_state (state i) (own i).count))

      more : length ofs' ≡ m + 1
      more = length-append ofs (of_line r (length states) 0 ∷ [])

      pub opens : RequestsIs table slots' states' ofs' k (upd phase r next) (trace ++ Request r prog a b ∷ [])
      opens =
          record {
            slots_room = length-set slots r (length states + 1) ∙ g.slots_room;
            as_many = omega (arith, more, same-place, length-append states (begun prog a b ∷ []));
            few = omega (arith, more, h);
            phases = λ q i. by_eq r q
                (λ e _. ap (seen table) (upd-at phase next e) ∙ its-phase ∙ ap (λ q. seen_slot states' ofs' (get_or slots' q 0)) e)
                (λ e _.
                ap (seen table) (upd_other phase next e) ∙ g.phases q i
                ∙ sym (slot_same states ofs states' ofs' m c (get_or slots q 0)
                (λ s d. let w = g.owner q s i d in (w.0, λ z. absurd (omega (arith, w.0, z)))))
                ∙ sym (ap (seen_slot states' ofs') (other q (λ d. e (sym d)))));
            owner = λ q s i d. by_eq r q
                (λ e _.
                let z : s ≡ m = omega (arith, slot, d, ap (λ q. get_or slots' q 0) e) in
                (omega (arith, z, more), ap (λ s. (of_at ofs' s).rid) z ∙ ap (λ x. x.rid) own ∙ e))
                (λ e _.
                let w = g.owner q s i (sym (other q (λ d. e (sym d))) ∙ d) in
                (omega (arith, w.0, more), ap (λ x. x.rid) (c.own s w.0 (λ z. absurd (omega (arith, w.0, z)))) ∙ w.1));
            rows = λ s i. by_eq s m
                (λ e _. subst (SlotIs (length table) slots' states' ofs' k) (sym e)
                (record {
                  rid = subst (λ x. x.rid < 65536) (sym own) rid;
                  slot = ap (λ x. get_or slots' x.rid 0) own ∙ slot;
                  group = ap (λ x. x.group) own;
                  few = omega (arith, ap (λ x. x.count) own);
                  program = subst (λ v. v.prog < length table) (sym state) known;
                }))
                (λ e _.
                let j : s < m = omega (arith, i, e, more) in
                let w = g.rows s j in
                row_same states ofs states' ofs' m c (length table) k k slots slots' s j e (omega arith)
                (other (of_at ofs s).rid (not_new (of_at ofs s).rid s w.slot)) w);
            arrived = rids-request trace r prog a b ∙ ap (λ rs. rs ++ r ∷ []) g.arrived ∙ sym (map-append (λ x. x.rid) ofs _);
          }

    -- ── the request of slot s goes on or closes ──
    module _ (r s : ℕ) (rid : r < 65536) (slot : get_or slots r 0 ≡ suc s) (x : State) (ofs' : List Of) (as_many : length ofs' ≡ m)
        (others : (q : ℕ) → q ≢ s → of_at ofs' q ≡ of_at ofs q) (rids : map (λ x. x.rid) ofs' ≡ map (λ x. x.rid) ofs) where
      abbrev put : List State
      put = set states s x

      w : (s < m) × ((of_at ofs s).rid ≡ r)
      w = g.owner r s rid slot

      mine : state_at put s ≡ x
      mine = get_or-set_same states s x _ (omega (arith, w.0, g.as_many))

      d : Changed states ofs put ofs' s
      d = record { state = λ q i n. get_or-set_other states s q x _ n; own = λ q i n. others q n }

      apart : (q t : ℕ) → q < 65536 → get_or slots q 0 ≡ suc t → (r ≡ q → ⊥) → (t < m) × (t ≢ s)
      apart q t i d n =
          let v = g.owner q t i d in
          (v.0, λ z. n (sym w.1 ∙ ap (λ t. (of_at ofs t).rid) (sym z) ∙ v.1))

      pub goes_on : (f : Phase (M table)) (k' : ℕ) → k ≤ k' → seen table f ≡ seen_state x (of_at ofs' s).count →
          (of_at ofs' s).rid ≡ r → (of_at ofs' s).group ≡ s → (of_at ofs' s).count ≤ k' → x.prog < length table →
          (trace' : List Event) → rids_of trace' ≡ rids_of trace → RequestsIs table slots put ofs' k' (upd phase r f) trace'
      goes_on f k' le e own group few known trace' same =
          record {
            slots_room = g.slots_room;
            as_many = length-set states s x ∙ g.as_many ∙ sym as_many;
            few = omega (arith, as_many, g.few);
            phases = λ q i. by_eq r q
                (λ z _.
                ap (seen table) (upd-at phase f z) ∙ e ∙ ap (λ v. seen_state v (of_at ofs' s).count) (sym mine)
                ∙ sym (ap (seen_slot put ofs') (ap (λ q. get_or slots q 0) (sym z) ∙ slot)))
                (λ z _.
                ap (seen table) (upd_other phase f z) ∙ g.phases q i
                ∙ sym (slot_same states ofs put ofs' s d (get_or slots q 0) (λ t y. apart q t i y z)));
            owner = λ q t i y. by_eq r q
                (λ z _.
                let j : t ≡ s = omega (arith, y, slot, ap (λ q. get_or slots q 0) z) in
                (omega (arith, w.0, j, as_many), ap (λ t. (of_at ofs' t).rid) j ∙ own ∙ z))
                (λ z _.
                let v = g.owner q t i y in
                let j = apart q t i y z in
                (omega (arith, v.0, as_many), ap (λ x. x.rid) (others t j.1) ∙ v.1));
            rows = λ t i. by_eq t s
                (λ z _. subst (SlotIs (length table) slots put ofs' k') (sym z)
                (record {
                  rid = omega (arith, own, rid);
                  slot = ap (λ q. get_or slots q 0) own ∙ slot;
                  group = group;
                  few = few;
                  program = subst (λ v. v.prog < length table) (sym mine) known;
                }))
                (λ z _.
                let j : t < m = omega (arith, i, as_many) in
                row_same states ofs put ofs' s d (length table) k k' slots slots t j z le refl (g.rows t j));
            arrived = same ∙ g.arrived ∙ sym rids;
          }
