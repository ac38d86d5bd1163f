-- The lines still to come in a run are claimed as the replays look them up: each line at the content that its object will hold then.
use mathlib.Core.Bool.{true, false}
use mathlib.Core.List.{List, [], ◌∷◌}
use mathlib.Core.Path.{◌≡◌, ap, ◌∙◌}
use Prim.Native.Nat.{ℕ, suc}
use lib.Dec.{eqb}
use Rattle.basics.specs.Maps.{upd}
use Rattle.basics.proofs.Maps.{upd_same, upd_other}
use Rattle.basics.proofs.Tests.{clash, by_bool, same_or, and-true, yes_eqb, eqb-self}
use Rattle.text.specs.declared.report.Entry.{Entry}
use Rattle.text.specs.declared.report.Op.{Op}
use Rattle.model.specs.Batch.{log_of, claims, claimed, Node, ln}
use Rattle.model.specs.Machine.{Machine, shown, applied}
use Rattle.model.specs.PlainRun.{State, line_now, operated}
use Rattle.model.specs.Replay.{Claim, by, claim}
use Rattle.model.proofs.Claims.{Unique}
use Rattle.model.proofs.Nodes.{lines_of}

module _ (M : Machine) (F : ℕ → ℕ → Claim M) where
  open M use {Process, Content, apply}

  -- F has the claims of an object's lines, whose content is c now
  abbrev pub Foretold : Content → List Entry → Type 0
  Foretold c [] = Unit {0}
  Foretold c (l ∷ ls) = (F l.rid l.num ≡ by l c) × Foretold (apply l.op c).1 ls

  abbrev pub Ahead : State M → List Node → Type 0
  Ahead s ys = (o : ℕ) → Foretold (s.contents o) (lines_of o ys)

  redone : (o : Op) (c : Content) → (apply (shown M o (apply o c).0) c).1 ≡ (apply o c).1
  redone o c = ap (λ z. z.1) (M.logged_apply o c)

  -- behind the operation whose line is the first
  pub ahead-next : (s : State M) (r k : ℕ) (p : Process) (o : Op) (ys : List Node) → Ahead s (ln (line_now M s r (suc k) o) ∷ ys) →
      (F r (suc k) ≡ by (line_now M s r (suc k) o) (s.contents o.object)) × Ahead (operated M s r (suc k) p o) ys
  ahead-next s r k p o ys h =
      let c = s.contents o.object in
      let after = (apply o c).1 in
      let first = rw (eqb-self o.object) at (h o.object) in (
        first.0,
        λ q. same_or (λ q. Foretold (upd s.contents o.object after q) (lines_of q ys)) o.object q
            (rw (upd_same s.contents o.object after, ← redone o c) first.1)
            (λ i d. rw (upd_other s.contents after i) (rw d at (h q))),
      )

module _ (M : Machine) where
  open M use {Content, apply}

  -- the claims that are looked up in a whole log, at the contents it starts from
  pub foretold-log : (F : ℕ → ℕ → Claim M) (ls : List Entry) (c : ℕ → Content) → Unique ls →
      ((r k : ℕ) → claimed ls r k ≡ true → F r k ≡ claim M ls c r k) → (o : ℕ) → Foretold M F (c o) (log_of o ls)
  foretold-log F [] c u h o = tt
  foretold-log F (l ∷ ls) c u h o =
      let after = (apply l.op (c l.op.object)).1 in
      let ih = foretold-log F ls (applied M c l.op) u.1 others in
      same_or (λ o. Foretold M F (c o) (log_of o (l ∷ ls))) l.op.object o
      (rw (eqb-self l.op.object) (here, rw (upd_same c l.op.object after) at (ih l.op.object)))
      (λ n e. rw e (rw (upd_other c after n) at (ih o)))
    where
      here : F l.rid l.num ≡ by l (c l.op.object)
      here = h l.rid l.num (rw (eqb-self l.rid, eqb-self l.num)) ∙ rw (eqb-self l.rid, eqb-self l.num)

      others : (r k : ℕ) → claimed ls r k ≡ true → F r k ≡ claim M ls (applied M c l.op) r k
      others r k e = by_bool (claims r k l)
          (λ d.
          let g = and-true (eqb l.rid r) (eqb l.num k) d in
          let p : l.rid ≡ r = yes_eqb g.0 in
          let q : l.num ≡ k = yes_eqb g.1 in
          let v : claimed ls l.rid l.num ≡ false = u.0 in
          clash (cc))
          (λ d. rw d at (h r k (rw (d, e))))
