-- Every allowed order gives each operation the answer that the reported logs give.
use mathlib.Core.Bool.{Bool, false, ◌&&◌}
use mathlib.Core.List.{List, ◌∷◌, map}
use mathlib.Core.Option.{Option, none, some}
use mathlib.Core.Path.{◌≡◌, refl, sym, ap, ap₂, ◌∙◌}
use Prim.Native.Nat.{ℕ, zero, suc, ◌+◌}
use lib.Dec.{eqb}
use native.Mathlib.Omega.{arith}
use Rattle.basics.specs.Count.{count}
use Rattle.basics.proofs.Tests.{by_bool, and-true, yes_eqb, eqb-self}
use Rattle.text.specs.declared.report.Op.{Op}
use Rattle.ordering.proofs.Lanes.{count-lanes}
use Rattle.model.specs.Allowed.{Allowed}
use Rattle.model.specs.Answers.{answer_of, logged_answer}
use Rattle.model.specs.Batch.{Batch, claims, Node, ev, ln}
use Rattle.model.specs.Machine.{op, Machine}
use Rattle.model.specs.Nodes.{lane, nodes}
use Rattle.model.specs.ByRule.{item_of}
use Rattle.model.specs.PlainRun.{opened, State, initial, arrived, line_now, operated, replied}
use Rattle.model.specs.Replay.{Claim, by, claim}
use Rattle.model.proofs.Ahead.{Ahead, ahead-next}
use Rattle.model.proofs.Complete.{claim-none}
use Rattle.model.proofs.Placed.{none-claimed, place, placed-ahead}
use Rattle.model.proofs.Runs.{Runs, ends, arrives, replies, operates}
use Rattle.model.proofs.Trace.{Formed}

-- the node is operation k of request r
abbrev does : ℕ → ℕ → Node → Bool
does r k (ev e) = false
does r k (ln l) = claims r k l

module _ (M : Machine) where
  open M use {Process, Content, advance}

  -- the answer of an operation that stands n times in an order
  abbrev told : (n : ℕ) → Claim M → Option ℕ
  told zero c = none
  told (suc n) c = logged_answer M c

  module _ (F : ℕ → ℕ → Claim M) (r k : ℕ) where
    abbrev Tells : List Node → State M → Type 0
    Tells ys s = answer_of M r k (map item_of ys) s ≡ told (count (does r k) ys) (F r k)

    -- events count for nothing
    skip : (ys : List Node) (s : State M) → Tells ys s → answer_of M r k (map item_of ys) s ≡ told (0 + count (does r k) ys) (F r k)
    skip ys s ih = let i : 0 + count (does r k) ys ≡ count (does r k) ys = omega arith in rw i ih

    -- the operation of a line
    told_line : (s : State M) (ys : List Node) (q n : ℕ) (p : Process) (o : Op) → s.phase q ≡ opened p n → advance p ≡ op o →
        F q (suc n) ≡ by (line_now M s q (suc n) o) (s.contents o.object) → Tells ys (operated M s q (suc n) p o) →
        Tells (ln (line_now M s q (suc n) o) ∷ ys) s
    told_line s ys q n p o f d c ih = by_bool (eqb q r && eqb (suc n) k)
        (λ e.
        let g = and-true (eqb q r) (eqb (suc n) k) e in
        let i : q ≡ r = yes_eqb g.0 in
        let j : suc n ≡ k = yes_eqb g.1 in
        let once : 1 + count (does r k) ys ≡ suc (count (does r k) ys) = omega arith in
        let same = ap (λ z. some z.0) (sym (M.logged_apply o (s.contents o.object))) in
        rw (e, f, d, once, ap₂ F (sym i) (sym j) ∙ c) same)
        (λ e.
        let none_here : 0 + count (does r k) ys ≡ count (does r k) ys = omega arith in
        rw (e, f, d, eqb-self (suc n), none_here) ih)

    answers-told : {ys : List Node} {s t : State M} → Runs M ys s t → Ahead M F s ys → Tells ys s
    answers-told ends a = refl
    answers-told (arrives {s = s} {ys = ys} q prog x y f h) a = skip ys (arrived M s q prog x y) (answers-told h a)
    answers-told (replies {s = s} {ys = ys} q u v p n f d h) a =
        rw (f, d, eqb-self u, eqb-self v) (skip ys (replied M s q p n) (answers-told h a))
    answers-told (operates {s = s} {ys = ys} q p n o f d h) a =
        let next = ahead-next M F s q n p o ys a in
        told_line s ys q n p o f d next.0 (answers-told h next.1)

  -- an operation that stands nowhere is not claimed
  told-claim : (opening : ℕ → Content) (b : Batch) (r k n : ℕ) → count (does r k) (nodes b) ≡ n →
      told n (claim M b.log opening r k) ≡ logged_answer M (claim M b.log opening r k)
  told-claim opening b r k zero e =
      rw (claim-none M b.log opening r k (none-claimed (does r k) r k (λ l. refl) b.log (map ev b.trace) e))
  told-claim opening b r k (suc n) e = refl

  pub logged-answers : (opening : ℕ → Content) (b : Batch) → Formed b → (a : Allowed M opening b) (r k : ℕ) →
      answer_of M r k a.order (initial M opening) ≡ logged_answer M (claim M b.log opening r k)
  logged-answers opening b f a r k =
      let p = place M opening b f a in
      let F = claim M b.log opening in
      ap (λ xs. answer_of M r k xs (initial M opening)) (sym p.order)
      ∙ answers-told F r k p.runs (placed-ahead M opening b a p)
      ∙ ap (λ n. told n (F r k)) (count-lanes lane (does r k) p.items (nodes b) p.placed.lanes)
      ∙ told-claim opening b r k (count (does r k) (nodes b)) refl
