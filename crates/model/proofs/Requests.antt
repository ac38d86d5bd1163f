-- What rows 4 and 6 leave of each request: it is asked once, answered at most once, and has one `of` line.
use mathlib.Core.Bool.{true, false}
use mathlib.Core.List.{List, [], ◌∷◌, Memᴰ}
use mathlib.Core.Logic.{◌≢◌}
use mathlib.Core.Option.{some}
use mathlib.Core.Path.{◌≡◌, refl, sym, ap, subst, ◌∙◌}
use Prim.Native.Nat.{ℕ}
use Rattle.basics.specs.Lists.{All}
use Rattle.basics.proofs.Lists.{all-mem, mem-all}
use Rattle.basics.proofs.Tests.{clash, by_eq, eqb_no, eqb-self}
use Rattle.text.specs.declared.report.Of.{Of}
use Rattle.text.specs.declared.trace.Event.TheVariants.{Request, Response}
use Rattle.text.specs.declared.trace.Event.{Event}
use Rattle.model.specs.Batch.{Batch, requested, answered, count_of, ev}
use Rattle.model.specs.Machine.{Machine}
use Rattle.model.specs.Nodes.{rid}
use Rattle.model.specs.Replay.{said, response_of, request_of}
use Rattle.model.proofs.Trace.{InOrder, Matching, Formed}

-- a fact of the rids that are requested
abbrev pub OfRequest : (ℕ → Type 0) → Event → Type 0
OfRequest P (Request r prog a b) = P r
OfRequest P (Response r s v) = Unit {0}

requested-no : (q r prog a b : ℕ) (past : List Event) → requested q (Request r prog a b ∷ past) ≡ false →
    (r ≢ q) × (requested q past ≡ false)
requested-no q r prog a b past e = by_eq r q (λ p d. let e' = rw d at e in clash (cc)) (λ p d. (p, rw d at e))

answered-no : (q r s v : ℕ) (past : List Event) → answered q (Response r s v ∷ past) ≡ false → (r ≢ q) × (answered q past ≡ false)
answered-no q r s v past e = by_eq r q (λ p d. let e' = rw d at e in clash (cc)) (λ p d. (p, rw d at e))

-- ── requests and `of` lines ──
of-request : (P : ℕ → Type 0) (es : List Event) (xs : List Of) → Matching es xs → All (λ x. P x.rid) xs → All (OfRequest P) es
of-request P [] xs m h = tt
of-request P (Request r prog a b ∷ es) [] m h = absurd m
of-request P (Request r prog a b ∷ es) (x ∷ xs) m h = (subst P m.0 h.0, of-request P es xs m.1 h.1)
of-request P (Response r s v ∷ es) xs m h = (tt, of-request P es xs m h)

pub request-of : (P : ℕ → Type 0) (es : List Event) (xs : List Of) → Matching es xs → All (OfRequest P) es → All (λ x. P x.rid) xs
request-of P [] [] m h = tt
request-of P [] (x ∷ xs) m h = absurd m
request-of P (Request r prog a b ∷ es) [] m h = tt
request-of P (Request r prog a b ∷ es) (x ∷ xs) m h = (subst P (sym m.0) h.0, request-of P es xs m.1 h.1)
request-of P (Response r s v ∷ es) xs m h = request-of P es xs m h.1

counted-all : (f : ℕ → ℕ) (past es : List Event) (xs : List Of) → Matching es xs → InOrder past es →
    ((r : ℕ) → requested r past ≡ false → f r ≡ count_of xs r) → All (λ x. f x.rid ≡ x.count) xs
counted-all f past [] [] m o h = tt
counted-all f past [] (x ∷ xs) m o h = absurd m
counted-all f past (Request r prog a b ∷ es) [] m o h = tt
counted-all f past (Request r prog a b ∷ es) (x ∷ xs) m o h = (
  h x.rid (ap (λ r. requested r past) m.0 ∙ o.0) ∙ rw (eqb-self x.rid),
  counted-all f (Request r prog a b ∷ past) es xs m.1 o.1 (λ q e.
      let n = requested-no q r prog a b past e in
      h q n.1 ∙ rw (eqb_no {a = x.rid} {b = q} (λ i. n.0 (sym m.0 ∙ i)))),
)
counted-all f past (Response r s v ∷ es) xs m o h = counted-all f (Response r s v ∷ past) es xs m o.2 h

module _ (b : Batch) where
  -- a rid that has an `of` line
  abbrev pub Named : ℕ → Type 0
  Named r = (x : Of) × Memᴰ x b.ofs × (x.rid ≡ r)

  all_named : (past es : List Event) → InOrder past es → ((r : ℕ) → requested r past ≡ true → Named r) → All (OfRequest Named) es →
      All (λ e. Named (rid (ev e))) es
  all_named past [] o n k = tt
  all_named past (Request r prog x y ∷ es) o n k = (
    k.0,
    all_named (Request r prog x y ∷ past) es o.1 (λ q e. by_eq r q (λ p d. subst Named p k.0) (λ p d. n q (rw d at e))) k.1,
  )
  all_named past (Response r s v ∷ es) o n k = (n r o.0, all_named (Response r s v ∷ past) es o.2 n k.1)

  pub events-named : Formed b → All (λ e. Named (rid (ev e))) b.trace
  events-named f = all_named [] b.trace f.in_order (λ r e. clash (cc))
      (of-request Named b.trace b.ofs f.matching (all-mem (λ x. Named x.rid) b.ofs (λ x m. (x, m, refl))))

  pub ofs-counted : Formed b → (x : Of) → Memᴰ x b.ofs → count_of b.ofs x.rid ≡ x.count
  ofs-counted f x m = mem-all (λ x. count_of b.ofs x.rid ≡ x.count)
      (counted-all (count_of b.ofs) [] b.trace b.ofs f.matching f.in_order (λ r _. refl)) m

module _ (M : Machine) (b : Batch) where
  open M use {Process, start}

  -- the event is the one that is looked up for its rid
  abbrev pub Sole : Event → Type 0
  Sole (Request r prog x y) = request_of M b.trace r ≡ some (start prog x y)
  Sole (Response r s v) = response_of b.trace r ≡ said s v

  all-sole : (past es : List Event) → InOrder past es →
      ((r : ℕ) → requested r past ≡ false → request_of M b.trace r ≡ request_of M es r) →
      ((r : ℕ) → answered r past ≡ false → response_of b.trace r ≡ response_of es r) → All Sole es
  all-sole past [] o f g = tt
  all-sole past (Request r prog x y ∷ es) o f g = (
    f r o.0 ∙ rw (eqb-self r),
    all-sole (Request r prog x y ∷ past) es o.1
        (λ q e. let i = requested-no q r prog x y past e in f q i.1 ∙ rw (eqb_no i.0)) g,
  )
  all-sole past (Response r s v ∷ es) o f g = (
    g r o.1 ∙ rw (eqb-self r),
    all-sole (Response r s v ∷ past) es o.2 f
        (λ q e. let i = answered-no q r s v past e in g q i.1 ∙ rw (eqb_no i.0)),
  )

  pub events-sole : Formed b → All Sole b.trace
  events-sole f = all-sole [] b.trace f.in_order (λ r _. refl) (λ r _. refl)

  -- a request with an `of` line stands in the trace
  abbrev pub Asked : ℕ → Type 0
  Asked r = (p : Process) × (request_of M b.trace r ≡ some p)

  all_asked : (es : List Event) → All Sole es → All (OfRequest Asked) es
  all_asked [] h = tt
  all_asked (Request r prog x y ∷ es) h = ((start prog x y, h.0), all_asked es h.1)
  all_asked (Response r s v ∷ es) h = (tt, all_asked es h.1)

  pub ofs-asked : Formed b → (x : Of) → Memᴰ x b.ofs → Asked x.rid
  ofs-asked f x m =
      mem-all (λ x. Asked x.rid) (request-of Asked b.trace b.ofs f.matching (all_asked b.trace (events-sole f))) m
