-- "Comes before" on a batch is the ordering's on its items; so row 9 holds exactly when a chain of it returns to its start.
use mathlib.Core.List.{List, [], map, Memᴰ}
use mathlib.Core.Logic.{◌≢◌, inl, inr, ◌↔◌}
use mathlib.Core.Path.{◌≡◌, refl, sym, ap, subst, subst₂}
use Prim.Native.Nat.{ℕ, suc}
use native.Mathlib.Omega.{arith}
use Rattle.basics.specs.Lists.{Neighbours}
use Rattle.basics.specs.Chain.{one, Cycle}
use Rattle.basics.proofs.Lists.{mem-all}
use Rattle.basics.proofs.Chains.{cycle-map}
use Rattle.text.specs.declared.report.Entry.{Entry}
use Rattle.text.specs.declared.trace.Event.TheVariants.{Request, Response}
use Rattle.text.specs.declared.trace.Event.{Event}
use Rattle.ordering.specs.Before.{Before, Follows}
use Rattle.ordering.proofs.Cycles.{merge-cycle}
use Rattle.model.specs.Batch.{Batch, log_of, count_of, Node, ev, ln}
use Rattle.model.specs.Nodes.{lane, rid, num, nodes, merge_of}
use Rattle.model.specs.Precedes.{Precedes, events, first, then, last, logged, Returns}
use Rattle.model.proofs.Claims.{Counted, Reported}
use Rattle.model.proofs.Items.{Source, source, in-log, in-trace, whole}
use Rattle.model.proofs.Mapped.{Images, neighbours-map, neighbours-unmap}
use Rattle.model.proofs.Nodes.{nodes-events, nodes-lines}
use Rattle.model.proofs.Trace.{Formed}

-- a rule for events and one for nodes that agree
pub record Agree (b : Batch) (T : List Event → Event → Event → Type 0) (U : List Node → Node → Node → Type 0) : Type 0 where
  pub to : (e g : Event) → T b.trace e g → U (map ev b.trace) (ev e) (ev g)
  pub from : (y x : Node) → U (map ev b.trace) y x → Images ev (T b.trace) y x

module _ (b : Batch) (h : Reported b) where
  abbrev cnt : ℕ → ℕ
  cnt = count_of b.ofs

  module _ {T : List Event → Event → Event → Type 0} {U : List Node → Node → Node → Type 0} (agree : Agree b T U) where
    pub before : (y x : Node) → Precedes T b y x → Before lane rid (num (count_of b.ofs)) U (nodes b) y x
    before y x (events {e = e} {f = g} t) = Before.events (subst (λ xs. U xs (ev e) (ev g)) (sym (nodes-events b)) (agree.to e g t))
    before y x (first {r = r} {prog = p} {x = i} {y = j} {l = l} m k e n) =
        Before.next (in-trace b (Request r p i j) m) (in-log b l k) (sym e, sym n) (λ _ z. omega arith)
    before y x (then {l = l} {m = m} i k e n) = Before.next (in-log b l i) (in-log b m k) (e, n) (λ _ z. omega arith)
    before y x (last {r = r} {s = s} {v = v} {l = l} m k e n) =
        Before.next (in-log b l m) (in-trace b (Response r s v) k) (e, ap suc n) (λ z _. omega arith)
    before y x (logged {l = l} {m = m} o n) =
        Before.logged o (subst (λ xs. Neighbours xs (ln l) (ln m)) (sym (nodes-lines b o)) (neighbours-map ln (log_of o b.log) l m n))

    -- an item and the next of its request, not both in the trace
    abbrev Step : Node → Node → Type 0
    Step y x = Follows rid (num cnt) y x → (lane y ≡ 0 → lane x ≡ 0 → ⊥) → Precedes T b y x

    line-event : (l : Entry) (g : Event) → Memᴰ l b.log → Memᴰ g b.trace → Step (ln l) (ev g)
    line-event l (Request r p i j) m k w ne = absurd (omega (arith, w.1))
    line-event l (Response r u v) m k w ne = last m k w.0 (omega (arith, w.1))

    event-line : (g : Event) (l : Entry) → Memᴰ g b.trace → Memᴰ l b.log → Step (ev g) (ln l)
    event-line (Request r p i j) l m k w ne = first m k (sym w.0) (sym w.1)
    event-line (Response r u v) l m k w ne = absurd (omega (arith, (mem-all (Counted cnt) h.counted k).high, ap cnt w.0, w.1))

    follow : (y x : Node) → Source b y → Source b x → Step y x
    follow y x (inl s) (inl t) = subst₂ Step s.2 t.2 (λ w ne. then s.1 t.1 w.0 w.1)
    follow y x (inl s) (inr t) = subst₂ Step s.2 t.2 (line-event s.0 t.0 s.1 t.1)
    follow y x (inr s) (inl t) = subst₂ Step s.2 t.2 (event-line s.0 t.0 s.1 t.1)
    follow y x (inr s) (inr t) = subst₂ Step s.2 t.2 (λ w ne. absurd (ne refl refl))

    pub precedes : (y x : Node) → Before lane rid (num (count_of b.ofs)) U (nodes b) y x → Precedes T b y x
    precedes y x (Before.events t) =
        let i = agree.from y x (subst (λ xs. U xs y x) (nodes-events b) t) in
        subst₂ (Precedes T b) i.left i.right (events i.holds)
    precedes y x (Before.logged o n) =
        let i = neighbours-unmap ln (log_of o b.log) y x (subst (λ xs. Neighbours xs y x) (nodes-lines b o) n) in
        subst₂ (Precedes T b) i.left i.right (logged o i.holds)
    precedes y x (Before.next my mx w ne) = follow y x (source b y my) (source b x mx) w ne

    pub cycles : Cycle (Precedes T b) ↔ Cycle (Before lane rid (num (count_of b.ofs)) U (nodes b))
    cycles = (cycle-map (λ y x p. one (before y x p)), cycle-map (λ y x p. one (precedes y x p)))

  pub neighbours-agree : Agree b Neighbours Neighbours
  neighbours-agree = record { to = neighbours-map ev b.trace; from = neighbours-unmap ev b.trace }

-- Row 9: the merge leaves something over exactly when a chain of "comes before" returns to its start.
pub merge-returns : (b : Batch) → Formed b → Reported b → ((merge_of b).1 ≢ []) ↔ Returns b
merge-returns b f h =
    let n = merge-cycle lane rid (num (count_of b.ofs)) (nodes b) (whole b f h) in
    let k = cycles b h (neighbours-agree b h) in
    (λ e. k.1 (n.0 e), λ r. n.1 (k.0 r))
