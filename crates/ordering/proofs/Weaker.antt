-- The cycles are the same if only a response and each later request are ordered in place of all neighbouring trace events.
use mathlib.Core.Path.{◌≡◌, refl, sym, ap, subst, ◌∙◌}
use mathlib.Core.Logic.{◌≢◌, ◌⊎◌, inl, inr, ⊎_elim, ◌↔◌}
use mathlib.Core.List.Memᴰ
use mathlib.Core.List.{List, [], ◌∷◌, ◌++◌, Memᴰ, append_assoc}
use Prim.Native.Nat.{ℕ, suc, ◌≤◌}
use native.Mathlib.Omega.{arith}
use Rattle.basics.specs.Lists.{Neighbours, Later}
use Rattle.basics.specs.Count.{count}
use Rattle.basics.specs.Chain.{Chain, one, more, Cycle}
use Rattle.basics.proofs.Lists.{not-later, later-next, later-mem, neighbours-later}
use Rattle.basics.proofs.Tests.{by_eq}
use Rattle.basics.proofs.Chains.{chain-trans, cycle-map}
use Rattle.ordering.specs.Order.{on_lane}
use Rattle.ordering.specs.Merge.{merge_all}
use Rattle.ordering.specs.Before.{events, logged, next, ComesBefore, WeaklyBefore}
use Rattle.ordering.specs.Whole.{keyed, Whole}
use Rattle.ordering.proofs.Lanes.{on-mem, count-on}
use Rattle.ordering.proofs.Numbers.{keyed-self}
use Rattle.ordering.proofs.Cycles.{merge-cycle}

module _ {A : Type 0} (lane rid num : A → ℕ) (all : List A) where
  abbrev trace : List A
  trace = on_lane lane 0 all

  abbrev S : A → A → Type 0
  S = ComesBefore lane rid num all

  abbrev W : A → A → Type 0
  W = WeaklyBefore lane rid num all

  -- ── the weaker relation leads nowhere else ──
  pub later-chain : (between front : List A) (y x : A) (back : List A) → trace ≡ front ++ y ∷ (between ++ x ∷ back) → Chain S y x
  later-chain [] front y x back e = one (events (record { front = front; back = back; split = e }))
  later-chain (z ∷ b) front y x back e = chain-trans
      (one (events (record { front = front; back = b ++ x ∷ back; split = e })))
      (later-chain b (front ++ (y ∷ [])) z x back (e ∙ sym (append_assoc front (y ∷ []) (z ∷ (b ++ x ∷ back)))))

  strong : (y x : A) → W y x → Chain S y x
  strong y x (events a) = let l = a.later in later-chain l.between l.front y x l.back l.split
  strong y x (logged o n) = one (logged o n)
  strong y x (next a b f s) = one (next a b f s)

  -- ── lanes of neighbours ──
  on-left : (l : ℕ) (y x : A) → Neighbours (on_lane lane l all) y x → lane y ≡ l
  on-left l y x n = (on-mem lane l all y (subst (Memᴰ y) (sym n.split) (Memᴰ.append_right n.front (Memᴰ.head refl)))).1

  on-right : (l : ℕ) (y x : A) → Later (on_lane lane l all) y x → lane x ≡ l
  on-right l y x b = (on-mem lane l all x (later-mem (on_lane lane l all) y x b)).1

  module _ (w : Whole lane rid num all) where
    once : (x : A) → count (keyed rid num (rid x) (num x)) trace ≤ 1
    once x = omega (arith, count-on lane (keyed rid num (rid x) (num x)) 0 all, w.once (rid x) (num x))

    extend : (z y x : A) → Later trace z y → Neighbours trace y x → Later trace z x
    extend z y x = later-next (keyed rid num (rid y) (num y)) trace z y x (keyed-self rid num y) (once y)

    -- ── a chain from an operation l, in the weaker relation: it comes to an event by a response at it or before it ──
    data From (l x : A) : Type 0 where
      off : lane x ≢ 0 → Chain W l x → From l x
      on : (e : A) → lane x ≡ 0 → num e ≢ 0 → Chain W l e → (e ≡ x) ⊎ Later trace e x → From l x

    arrive : (l x : A) → num x ≢ 0 → Chain W l x → From l x
    arrive l x n c = by_eq (lane x) 0 (λ p _. on x p n c (inl refl)) (λ p _. off p c)

    by-event : (l y x : A) → Neighbours trace y x → From l y → From l x
    by-event l y x n (off p c) = absurd (p (on-left 0 y x n))
    by-event l y x n (on e p i c b) = on e (on-right 0 y x (neighbours-later trace y x n)) i c
        (inr (⊎_elim (λ j. subst (λ e. Later trace e x) (sym j) (neighbours-later trace y x n)) (λ b. extend e y x b n) b))

    by-log : (l : A) (o : ℕ) (y x : A) → Neighbours (on_lane lane (suc o) all) y x → From l y → From l x
    by-log l o y x n (off p c) =
        off (λ q. omega (arith, on-right (suc o) y x (neighbours-later (on_lane lane (suc o) all) y x n))) (more c (logged o n))
    by-log l o y x n (on e p i c b) = absurd (omega (arith, on-left (suc o) y x n))

    by_next : (l y x : A) → Memᴰ y all → Memᴰ x all → (f : (rid y ≡ rid x) × (suc (num y) ≡ num x)) →
        (lane y ≡ 0 → lane x ≡ 0 → ⊥) → From l y → From l x
    by_next l y x a b f s (off p c) = arrive l x (λ z. omega (arith, f.1)) (more c (next a b f s))
    by_next l y x a b f s (on e p i c d) =
        let z : num y ≡ 0 = w.opens y x a b p f in
        ⊎_elim
        (λ j. absurd (i (ap num j ∙ z)))
        (λ k. off (s p) (more (more c (events (record { response = i; request = z; later = k }))) (next a b f s)))
        d

    from-operation : (l x : A) → lane l ≢ 0 → Chain S l x → From l x
    from-operation l x p (one (events n)) = absurd (p (on-left 0 l x n))
    from-operation l x p (one (logged o n)) =
        off (λ q. omega (arith, on-right (suc o) l x (neighbours-later (on_lane lane (suc o) all) l x n))) (one (logged o n))
    from-operation l x p (one (next a b f s)) = arrive l x (λ z. omega (arith, f.1)) (one (next a b f s))
    from-operation l x p (more {y = y} c (events n)) = by-event l y x n (from-operation l y p c)
    from-operation l x p (more {y = y} c (logged o n)) = by-log l o y x n (from-operation l y p c)
    from-operation l x p (more {y = y} c (next a b f s)) = by_next l y x a b f s (from-operation l y p c)

    -- ── a chain stays on the trace, or goes through an operation ──
    record Via (y x : A) : Type 0 where
      pub item : A
      pub off_trace : lane item ≢ 0
      pub to : (y ≡ item) ⊎ Chain S y item
      pub from : (x ≡ item) ⊎ Chain S item x

    through : (y x : A) → Chain S y x → Later trace y x ⊎ Via y x
    through y x (one (events n)) = inl (neighbours-later trace y x n)
    through y x (one (logged o n)) =
        inr (record { item = y; off_trace = λ q. omega (arith, on-left (suc o) y x n); to = inl refl; from = inr (one (logged o n)) })
    through y x (one (next a b f s)) = inr (by_eq (lane y) 0
        (λ p _. record { item = x; off_trace = s p; to = inr (one (next a b f s)); from = inl refl })
        (λ p _. record { item = y; off_trace = p; to = inl refl; from = inr (one (next a b f s)) }))
    through y x (more {y = z} c (events n)) = ⊎_elim
        (λ k. inl (extend y z x k n))
        (λ v. inr (record {
          item = v.item;
          off_trace = v.off_trace;
          to = v.to;
          from = inr (⊎_elim (λ i. subst (λ u. Chain S u x) i (one (events n))) (λ d. more d (events n)) v.from);
        }))
        (through y z c)
    through y x (more {y = z} c (logged o n)) =
        inr (record { item = z; off_trace = λ q. omega (arith, on-left (suc o) z x n); to = inr c; from = inr (one (logged o n)) })
    through y x (more {y = z} c (next a b f s)) = inr (by_eq (lane z) 0
        (λ p _. record { item = x; off_trace = s p; to = inr (more c (next a b f s)); from = inl refl })
        (λ p _. record { item = z; off_trace = p; to = inr c; from = inr (one (next a b f s)) }))

    returning : (l : A) → lane l ≢ 0 → From l l → Cycle W
    returning l p (off _ c) = record { item = l; returns = c }
    returning l p (on e q i c b) = absurd (p q)

    weak-cycle : Cycle S → Cycle W
    weak-cycle c = ⊎_elim
        (λ k. absurd (not-later (keyed rid num (rid z) (num z)) trace z (keyed-self rid num z) (once z) k))
        (λ v. returning v.item v.off_trace (from-operation v.item v.item v.off_trace (around v)))
        (through z z c.returns)
      where
        z : A
        z = c.item

        around : (v : Via z z) → Chain S v.item v.item
        around v = ⊎_elim
            (λ i. subst (λ u. Chain S u u) i c.returns)
            (λ d. ⊎_elim (λ i. subst (λ u. Chain S u v.item) i d) (λ e. chain-trans e d) v.from)
            v.to

    pub weaker : Cycle (ComesBefore lane rid num all) ↔ Cycle (WeaklyBefore lane rid num all)
    weaker = (weak-cycle, cycle-map strong)

    pub merge-weaker : ((merge_all lane rid num all).1 ≢ []) ↔ Cycle (WeaklyBefore lane rid num all)
    merge-weaker = let m = merge-cycle lane rid num all w in (λ n. weaker.0 (m.0 n), λ c. m.1 (weaker.1 c))
