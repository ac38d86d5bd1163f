-- A small machine for computed examples, which keeps the bounds that the theorems ask: a program is a list of operations, and replies with
-- the last answer.
use mathlib.Core.Bool.{Bool, cond, ◌||◌}
use mathlib.Core.List.{List, [], ◌∷◌, ◌++◌}
use mathlib.Core.Path.{◌≡◌, refl, subst}
use Prim.Native.Nat.{ℕ, zero, suc, ◌+◌, ◌^◌, ◌≤◌, ◌<◌}
use lib.Dec.{eqb}
use lib.ListN.{get_or, length}
use native.Mathlib.Omega.{arith}
use Rattle.basics.specs.Lists.{All}
use Rattle.basics.specs.Maps.{upd}
use Rattle.basics.proofs.Lists.{all_get_d}
use Rattle.basics.proofs.Maps.{upd-at, upd_other}
use Rattle.basics.proofs.Tests.{clash, by_bool, by_eq}
use Rattle.text.specs.declared.report.Op.{Op}
use Rattle.model.specs.Bounds.{Within, Bounded}
use Rattle.model.specs.Machine.{Next, op, stop, Machine}

-- a request that has done the first `at` operations of its program
pub record Process : Type 0 where
  pub prog : ℕ
  pub at : ℕ
  pub last : ℕ

-- the operation at a position, or the reply v behind the last
abbrev pub next_at : List Op → ℕ → ℕ → Next
next_at [] i v = stop 0 v
next_at (o ∷ os) zero v = op o
next_at (o ∷ os) (suc i) v = next_at os i v

-- the numbers below n
abbrev pub below : ℕ → List ℕ
below zero = []
below (suc n) = below n ++ (n ∷ [])

abbrev pub writes : Op → Bool
writes o = eqb o.kind 7 || eqb o.kind 9

next-mem : (P : Op → Type 0) (os : List Op) (i v : ℕ) (o : Op) → All P os → next_at os i v ≡ op o → P o × (i < length os)
next-mem P [] i v o h e = clash (cc)
next-mem P (x ∷ os) zero v o h e = let i : x ≡ o = cc in (subst P i h.0, omega arith)
next-mem P (x ∷ os) (suc i) v o h e = let n = next-mem P os i v o h.1 e in (n.0, omega (arith, n.1))

next-stop : (os : List Op) (i v s w : ℕ) → next_at os i v ≡ stop s w → (0 ≡ s) × (v ≡ w)
next-stop [] i v s w e = (cc, cc)
next-stop (x ∷ os) zero v s w e = clash (cc)
next-stop (x ∷ os) (suc i) v s w e = next-stop os i v s w e

abbrev pub Word : ℕ → Type 0
Word n = n < 2 ^ 64

abbrev pub FitOp : Op → Type 0
FitOp o = (o.object < 16) × Word o.value

-- the programs name objects below 16 and 64-bit values, and have at most 256 operations
abbrev pub FitProgram : List Op → Type 0
FitProgram os = (length os ≤ 256) × All FitOp os

module _ (programs : List (List Op)) where
  abbrev pub program : ℕ → List Op
  program prog = get_or programs prog []

  abbrev pub machine : Machine
  machine = record {
    Process = Process;
    Content = ℕ → ℕ;
    start = λ prog a b. record { prog = prog; at = 0; last = a };
    advance = λ p. next_at (program p.prog) p.at p.last;
    resume = λ p v. record { prog = p.prog; at = suc p.at; last = v };
    path_so_far = λ p. p.prog ∷ below p.at;
    path_at_end = λ p. p.prog ∷ below (suc p.at);
    apply = λ o c. (c o.key, cond (writes o) (upd c o.key o.value) c);
    logged = λ o v. o.value;
    logged_apply = λ o c. refl;
  }

  module _ (fit : All FitProgram programs) where
    program-fit : (prog : ℕ) → FitProgram (program prog)
    program-fit prog = all_get_d FitProgram [] (omega arith, tt) programs fit prog

    pub within : Within machine 16
    within p o e = (next-mem FitOp (program p.prog) p.at p.last o (program-fit p.prog).1 e).0.0

    content-fit : (o : Op) (c : ℕ → ℕ) → Word o.value → ((k : ℕ) → Word (c k)) → (k : ℕ) → Word ((machine.apply o c).1 k)
    content-fit o c w h k = by_bool (writes o)
        (λ d. rw d (by_eq o.key k (λ e _. rw (upd-at c o.value e) w) (λ e _. rw (upd_other c o.value e) (h k))))
        (λ d. rw d (h k))

    pub bounded : Bounded machine
    bounded = record {
      Fit = λ n p. (length (program p.prog) ≤ p.at + n) × Word p.last;
      FitContent = λ c. (k : ℕ) → Word (c k);
      FitInput = λ prog a b. Word a;
      FitOp = FitOp;
      FitReply = λ s v. (s ≤ 1) × Word v;
      most = 256;
      starts = λ prog a b h. (omega (arith, (program-fit prog).0), h);
      operates = λ n p o c f e h.
          let m = next-mem FitOp (program p.prog) p.at p.last o (program-fit p.prog).1 e in
          (m.0, content-fit o c m.0.1 h, less (length (program p.prog)) p.at n f.0 m.1 (h o.key));
      stops = λ n p s v f e.
          let d = next-stop (program p.prog) p.at p.last s v e in
          (omega (arith, d.0), subst Word d.1 f.1);
    }
      where
        less : (l a n : ℕ) {v : ℕ} → l ≤ a + n → a < l → Word v → (m : ℕ) × (suc m ≤ n) × ((l ≤ suc a + m) × Word v)
        less l a zero h k w = absurd (omega arith)
        less l a (suc n) h k w = (n, omega arith, (omega arith, w))

    pub zero-fit : bounded.FitContent (λ k. 0)
    unfolding bounded
    zero-fit k = omega arith
