-- Every allowed order ends with the same contents: those that the reported logs give.
use mathlib.Core.List.{List, ◌∷◌}
use mathlib.Core.Path.{◌≡◌, refl, sym, ap, ◌∙◌}
use Prim.Native.Nat.{ℕ, suc}
use Rattle.basics.specs.Maps.{upd}
use Rattle.basics.proofs.Maps.{upd_same, upd_other}
use Rattle.basics.proofs.Tests.{same_or, eqb-self}
use Rattle.text.specs.declared.report.Op.{Op}
use Rattle.model.specs.Allowed.{Allowed}
use Rattle.model.specs.Answers.{written}
use Rattle.model.specs.Batch.{Batch, log_of, Node, ln}
use Rattle.model.specs.Machine.{Machine}
use Rattle.model.specs.PlainRun.{State, line_now, operated}
use Rattle.model.proofs.Nodes.{lines_of}
use Rattle.model.proofs.Placed.{place}
use Rattle.model.proofs.Runs.{Runs, ends, arrives, replies, operates}
use Rattle.model.proofs.Trace.{Formed}

module _ (M : Machine) where
  open M use {Process, Content, apply}

  -- an operation leaves what its log line, done again, leaves
  wrote : (s : State M) (ys : List Node) (r k : ℕ) (p : Process) (x : Op) (o : ℕ) →
      written M ((operated M s r k p x).contents o) (lines_of o ys) ≡ written M (s.contents o) (lines_of o (ln (line_now M s r k x) ∷ ys))
  wrote s ys r k p x o =
      let c = s.contents x.object in
      let after = (apply x c).1 in
      let line = line_now M s r k x in
      same_or (λ o. written M (upd s.contents x.object after o) (lines_of o ys) ≡ written M (s.contents o) (lines_of o (ln line ∷ ys)))
      x.object o
      (rw (upd_same s.contents x.object after, eqb-self x.object)
      (ap (λ z. written M z.1 (lines_of x.object ys)) (sym (M.logged_apply x c))))
      (λ n e. rw (upd_other s.contents after n, e))

  runs-contents : {ys : List Node} {s t : State M} → Runs M ys s t → (q : ℕ) → t.contents q ≡ written M (s.contents q) (lines_of q ys)
  runs-contents ends q = refl
  runs-contents (arrives r prog a b f h) q = runs-contents h q
  runs-contents (replies r u v p k f d h) q = runs-contents h q
  runs-contents (operates {s = s} {ys = ys} r p k o f d h) q = runs-contents h q ∙ wrote s ys r (suc k) p o q

  pub closing : (opening : ℕ → Content) (b : Batch) → Formed b → (a : Allowed M opening b) (o : ℕ) →
      a.final.contents o ≡ written M (opening o) (log_of o b.log)
  closing opening b f a o =
      let p = place M opening b f a in
      runs-contents p.runs o ∙ ap (written M (opening o)) (p.lines o)
