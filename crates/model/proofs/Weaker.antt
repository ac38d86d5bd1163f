-- Row 9 is the same if only a response and each later request are ordered in place of all neighbouring trace events.
use mathlib.Core.Bool.{Bool}
use mathlib.Core.List.{[], map}
use mathlib.Core.Logic.{◌≢◌, ◌↔◌}
use mathlib.Core.Path.{◌≡◌, refl, sym, ap, ◌∙◌}
use Prim.Native.Nat.{ℕ}
use native.Mathlib.Omega.{arith}
use Rattle.basics.specs.Lists.{Later}
use Rattle.text.specs.declared.trace.Event.TheVariants.{Request, Response}
use Rattle.text.specs.declared.trace.Event.{Event}
use Rattle.ordering.specs.Before.{Answered}
use Rattle.ordering.proofs.Weaker.{merge-weaker}
use Rattle.model.specs.Audit.{audit}
use Rattle.model.specs.Claims.{NoneTo8}
use Rattle.model.specs.Batch.{Batch, count_of, Node, ev}
use Rattle.model.specs.Checks.{verdict}
use Rattle.model.specs.Machine.{Machine}
use Rattle.model.specs.Nodes.{lane, rid, num, nodes, merge_of}
use Rattle.model.specs.Precedes.{LaterRequest, later_request, ReturnsWeakly}
use Rattle.model.proofs.Audited.{audit-nine-by}
use Rattle.model.proofs.Claims.{Reported}
use Rattle.model.proofs.Items.{whole}
use Rattle.model.proofs.Mapped.{Images, later-map, later-unmap}
use Rattle.model.proofs.Precedes.{Agree, cycles}
use Rattle.model.proofs.Trace.{Formed}

module _ (b : Batch) where
  abbrev cnt : ℕ → ℕ
  cnt = count_of b.ofs

  to : (e g : Event) → LaterRequest b.trace e g → Answered (num cnt) (map ev b.trace) (ev e) (ev g)
  to e g (later_request {r = r} {s = s} {v = v} {q = q} {prog = p} {x = x} {y = y} l) = record {
    response = λ i. omega arith;
    request = refl;
    later = later-map ev b.trace (Response r s v) (Request q p x y) l;
  }

  -- a later event that is a request, of one that is not
  answering : (e g : Event) → num cnt (ev e) ≢ 0 → num cnt (ev g) ≡ 0 → Later b.trace e g → LaterRequest b.trace e g
  answering (Request r prog x y) g n z l = absurd (n refl)
  answering (Response r s v) (Request q prog x y) n z l = later_request l
  answering (Response r s v) (Response q t w) n z l = absurd (omega arith)

  from : (y x : Node) → Answered (num cnt) (map ev b.trace) y x → Images ev (LaterRequest b.trace) y x
  from y x a =
      let i = later-unmap ev b.trace y x a.later in
      record {
        source = i.source;
        target = i.target;
        left = i.left;
        right = i.right;
        holds = answering i.source i.target (λ z. a.response (ap (num cnt) (sym i.left) ∙ z))
            (ap (num cnt) i.right ∙ a.request) i.holds;
      }

  later-agree : Agree b LaterRequest (Answered (num cnt))
  later-agree = record { to = to; from = from }

merge-weakly : (b : Batch) → Formed b → Reported b → ((merge_of b).1 ≢ []) ↔ ReturnsWeakly b
merge-weakly b f h =
    let n = merge-weaker lane rid (num (count_of b.ofs)) (nodes b) (whole b f h) in
    let k = cycles b h (later-agree b) in
    (λ e. k.1 (n.0 e), λ r. n.1 (k.0 r))

pub audit-nine-weaker : (M : Machine) (opening : ℕ → M.Content) (known : ℕ → Bool) (b : Batch) →
    (audit M opening known b ≡ verdict 9 0) ↔ (NoneTo8 known b × ReturnsWeakly b)
audit-nine-weaker M opening known b = audit-nine-by M opening known b (merge-weakly b)
