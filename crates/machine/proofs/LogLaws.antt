-- Laws of a log: what an operation changes, one line more, and the answer of each line.
use Rattle.std.proofs.Common.{◌≡◌, ℕ, zero, suc, ◌+◌, ◌<◌, eqb, List, [], ◌∷◌, ◌++◌, length, get_or, set, refl, ap, arith}
use mathlib.Core.Path.{fun_ext}
use lib.Seq.{sets}
use Rattle.basics.specs.Firsts.{firsts}
use Rattle.basics.specs.Maps.{upd}
use Rattle.basics.proofs.Firsts.{firsts-front}
use Rattle.basics.proofs.Tests.{by_bool}
use Rattle.text.specs.declared.report.Entry.{Entry}
use Rattle.text.specs.declared.report.Op.{Op}
use Rattle.machine.specs.Objects.{Content, apply}
use Rattle.machine.specs.Logs.{after, after_all, answers_from, answer_at}

-- the objects after an operation, as a map with one object changed
pub after-upd : (cs : ℕ → Content) (o : Op) → ◌≡◌ {A = ℕ → Content} (upd cs o.object (apply o (cs o.object)).1) (after cs o)
unfolding upd
after-upd cs o = fun_ext λ j. by_bool (eqb o.object j) (λ e. rw e) (λ e. rw e)

-- ── one line more ──
pub after-snoc : (cs : ℕ → Content) (ls : List Entry) (l : Entry) → after_all cs (ls ++ l ∷ []) ≡ after (after_all cs ls) l.op
after-snoc cs [] l = refl
after-snoc cs (x ∷ ls) l = after-snoc (after cs x.op) ls l

pub answers-snoc : (cs : ℕ → Content) (ls : List Entry) (l : Entry)
    → answers_from cs (ls ++ l ∷ []) ≡ answers_from cs ls ++ (apply l.op (after_all cs ls l.op.object)).0 ∷ []
answers-snoc cs [] l = refl
answers-snoc cs (x ∷ ls) l = ap (λ vs. (apply x.op (cs x.op.object)).0 ∷ vs) (answers-snoc (after cs x.op) ls l)

pub answers-length : (cs : ℕ → Content) (ls : List Entry) → length (answers_from cs ls) ≡ length ls
answers-length cs [] = refl
answers-length cs (l ∷ ls) = ap suc (answers-length (after cs l.op) ls)

-- ── the answer of line i ──
pub answers_at : (line : ℕ → Entry) (n i : ℕ) (cs : ℕ → Content) → i < n → get_or (answers_from cs (firsts line n)) i 0 ≡ answer_at cs line i
unfolding firsts
answers_at line zero i cs h = absurd (omega arith)
answers_at line (suc n) zero cs h = rw (firsts-front line n)
answers_at line (suc n) (suc i) cs h =
    rw (firsts-front line n, firsts-front line i) (answers_at (λ j. line (suc j)) n i (after cs (line 0).op) (omega arith))

-- a list written one item further
pub sets-snoc : (l : List ℕ) (k : ℕ) (vs : List ℕ) (v : ℕ) → sets l k (vs ++ v ∷ []) ≡ set (sets l k vs) (k + length vs) v
sets-snoc l k [] v = let e : k + 0 ≡ k = omega arith in rw e
sets-snoc l k (w ∷ vs) v = let e : k + suc (length vs) ≡ suc k + length vs = omega arith in rw e (sets-snoc (set l k w) (suc k) vs v)
