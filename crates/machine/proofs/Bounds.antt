-- The machine meets what the host's half of demand 3 asks of one: operations name objects below 16, fields stay below 2^64, and a request
-- has at most as many operations as its limit has instructions.
use Rattle.std.proofs.Common.{◌≡◌, ℕ, zero, suc, ◌+◌, ◌-◌, ◌%◌, ◌^◌, ◌<◌, ◌≤◌, Bool, true, false, cond, eqb, ltb, List, [], ◌∷◌, get_or, set, replicate, refl, subst, arith}
use Rattle.basics.proofs.Tests.{clash}
use Rattle.text.specs.Codes.{Code, reply, constant, add, subtract, less, jump, read, write, get, put, has, other, code_of, is_operation}
use Rattle.text.specs.declared.programs.Instr.{Instr}
use Rattle.text.specs.declared.programs.Program.{Program}
use Rattle.text.specs.declared.report.Op.{Op}
use Rattle.model.specs.Machine.{op, stop}
use Rattle.model.specs.Bounds.{Within, Bounded}
use Rattle.std.specs.Prelude.{Option, Some, None}
use Rattle.machine.specs.declared.instructions.Act.{Act}
use Rattle.machine.specs.declared.instructions.Act.TheVariants.{Goes, Asks, Replies}
use Rattle.machine.specs.declared.processes.Next.{Next}
use Rattle.machine.specs.declared.processes.Next.TheVariants.{Operation, Reply, Cut}
use Rattle.machine.specs.Instructions.{Effect, effect_as, effect_of, local}
use Rattle.machine.specs.Processes.{Advanced, behind, go, instr_at, resumed}
use Rattle.machine.specs.Objects.{Content, register, store, finds, reads, apply, changes, written, value_of, is_has, is_read, shown}
use Rattle.machine.proofs.Steps.{follow}
use Rattle.machine.specs.Instance.{Process, machine, next_of, into_of, code_at, gone}

-- numbers of 64 bits
abbrev pub Word : ℕ → Type 0
Word n = n < 2 ^ 64

abbrev pub Words : List ℕ → Type 0
Words l = (i : ℕ) → Word (get_or l i 0)

words-cons : (x : ℕ) (l : List ℕ) → Word x → Words l → Words (x ∷ l)
words-cons x l w h zero = w
words-cons x l w h (suc i) = h i

words-zero : (n : ℕ) → Words (replicate n 0)
words-zero zero = λ i. omega arith
words-zero (suc n) = words-cons 0 (replicate n 0) (omega arith) (words-zero n)

words-set : (l : List ℕ) (k v : ℕ) → Words l → Word v → Words (set l k v)
words-set [] k v h w = h
words-set (x ∷ l) zero v h w = words-cons v l w (λ i. h (suc i))
words-set (x ∷ l) (suc k) v h w = words-cons x (set l k v) (h zero) (words-set l k v (λ i. h (suc i)) w)

word_mod : (n : ℕ) → Word (n % 2 ^ 64)
word_mod n = omega arith

word-cond : (b : Bool) (x y : ℕ) → Word x → Word y → Word (cond b x y)
word-cond true x y v w = v
word-cond false x y v w = w

-- ── a request as it goes on ──

-- W is kept by the locals, F holds of the operations and R of the replies, if each instruction of the code sees to it
module _ (W : List ℕ → Type 0) (F : Op → Type 0) (R : ℕ → Type 0) where
  abbrev FitAct : Act → Type 0
  FitAct (Goes to) = Unit {0}
  FitAct (Asks o into) = F o
  FitAct (Replies v) = R v

  abbrev FitEffect : Effect → Type 0
  FitEffect e = W e.locals × FitAct e.act

  abbrev FitNext : Next → Type 0
  FitNext (Operation o into) = F o
  FitNext (Reply v) = R v
  FitNext Cut = Unit {0}

  -- gone on from `done` instructions with k left
  record FitAdvanced (k done : ℕ) (r : Advanced) : Type 0 where
    pub locals_fit : W r.locals
    pub next_fit : FitNext r.stop.next
    pub counted : (o : Op) (into : ℕ) → r.stop.next ≡ Operation o into → (done < r.stop.done) × (r.stop.done ≤ done + k)

  follows : (e : Effect) (k at n done : ℕ) (f : List ℕ → ℕ → Advanced) → FitEffect e
      → ((l : List ℕ) (to : ℕ) → W l → FitAdvanced k (done + 1) (f l to))
      → FitAdvanced (suc k) done (behind (at ∷ []) (follow e.act e.locals n (done + 1) f))
  follows e k at n done f w g = by e.act e.locals w.0 w.1
    where
      by : (x : Act) (m : List ℕ) → W m → FitAct x → FitAdvanced (suc k) done (behind (at ∷ []) (follow x m n (done + 1) f))
      by (Goes to) m h v =
          let r = g m to h in
          record {
            locals_fit = r.locals_fit;
            next_fit = r.next_fit;
            counted = λ o into e. let c = r.counted o into e in (omega (arith, c.0), omega (arith, c.1));
          }
      by (Asks o into) m h v = record { locals_fit = h; next_fit = v; counted = λ o into e. (omega arith, omega arith) }
      by (Replies v) m h w = record { locals_fit = h; next_fit = w; counted = λ o into e. clash (cc) }

  goes : (k : ℕ) (code : List Instr) → ((l : List ℕ) (at n : ℕ) → W l → FitEffect (effect_of l (instr_at code at) n))
      → (l : List ℕ) (at done : ℕ) → W l → FitAdvanced k done (go k code l at done)
  unfolding go
  goes zero code b l at done h = record { locals_fit = h; next_fit = tt; counted = λ o into e. clash (cc) }
  goes (suc k) code b l at done h =
      follows (effect_of l (instr_at code at) (at % 64 + 1)) k (at % 64) (at % 64 + 1) done
      (λ m to. go k code m to (done + 1)) (b l at (at % 64 + 1) h) (λ m to g. goes k code b m to (done + 1) g)

-- ── what the model asks ──
pub operation : (x : Next) (o : Op) → next_of x ≡ op o → (into : ℕ) × (x ≡ Operation o into)
operation (Operation u into) o e = (into, cc)
operation (Reply v) o e = clash (cc)
operation Cut o e = clash (cc)

-- operations name objects below 16
abbrev Near : Effect → Type 0
Near = FitEffect (λ l. Unit {0}) (λ o. o.object < 16) (λ v. Unit {0})

near : (c : Code) (l : List ℕ) (i : Instr) (n : ℕ) → Near (effect_as c l i n)
unfolding effect_as
near reply l i n = (tt, tt)
near constant l i n = (tt, tt)
near add l i n = (tt, tt)
near subtract l i n = (tt, tt)
near less l i n = (tt, tt)
near jump l i n = (tt, tt)
near read l i n = (tt, omega arith)
near write l i n = (tt, omega arith)
near get l i n = (tt, omega arith)
near put l i n = (tt, omega arith)
near has l i n = (tt, omega arith)
near other l i n = (tt, tt)

pub within : (limit : ℕ) (table : List Program) → Within (machine limit table) 16
within limit table p o e =
    let d = operation (gone limit table p).stop.next o e in
    let g = goes (λ l. Unit {0}) (λ o. o.object < 16) (λ v. Unit {0}) (limit - p.done) (code_at table p.prog)
    (λ l at n h. near (code_of (instr_at (code_at table p.prog) at).code) l _ n) p.locals p.at p.done tt in
    subst (FitNext (λ l. Unit {0}) (λ o. o.object < 16) (λ v. Unit {0})) d.1 g.next_fit

-- fields stay below 2^64, and a kind is the code of an operation
abbrev pub FitOp : Op → Type 0
FitOp o = (o.object < 16) × (is_operation o.kind ≡ true) × Word o.key × Word o.value

module _ (l : List ℕ) (i : Instr) (n : ℕ) (h : Words l) (w : Word i.b) where
  fits : (code : Code) → code_of i.code ≡ code → FitEffect Words FitOp Word (effect_as code l i n)
  unfolding effect_as
  fits reply e = (h, h (i.a % 8))
  fits constant e = (words-set l (i.a % 8) i.b h w, tt)
  fits add e = (words-set l (i.a % 8) _ h (word_mod _), tt)
  fits subtract e = (words-set l (i.a % 8) _ h (word_mod _), tt)
  fits less e =
      (words-set l (i.a % 8) _ h (word-cond (ltb (local l i.b) (local l i.c)) 1 0 (omega arith) (omega arith)), tt)
  fits jump e = (h, tt)
  fits read e = (h, (omega arith, rw e, omega arith, omega arith))
  fits write e = (h, (omega arith, rw e, omega arith, h (i.b % 8)))
  fits get e = (h, (omega arith, rw e, h (i.c % 8), omega arith))
  fits put e = (h, (omega arith, rw e, h (i.b % 8), h (i.c % 8)))
  fits has e = (h, (omega arith, rw e, h (i.c % 8), omega arith))
  fits other e = (h, tt)

replies : (x : Next) (status value : ℕ) → FitNext Words FitOp Word x → next_of x ≡ stop status value → (status ≤ 1) × Word value
replies (Operation u into) s v f e = clash (cc)
replies (Reply u) s v f e = let i : 0 ≡ s = cc in let j : u ≡ v = cc in (omega arith, subst Word j f)
replies Cut s v f e = let i : 1 ≡ s = cc in let j : 0 ≡ v = cc in (omega arith, omega arith)

-- what an operation finds is a value, or a 1 or 0
pub finds-fit : (o : Op) (cell : Option ℕ) → Word (value_of cell) → Word (finds o cell)
finds-fit o None w = word-cond (is_has o) 0 0 w w
finds-fit o (Some v) w = word-cond (is_has o) 1 v (omega arith) w

-- whatever operation reads it
abbrev pub FitContent : Content → Type 0
FitContent c = (o : Op) → Word (reads o c)

module _ (o : Op) (w : Word o.value) where
  written-fit : (c : Content) → FitContent c → FitContent (written o c)
  written-fit (register v) h x = w
  written-fit (store cells) h x = by (eqb o.key x.key)
    where
      by : (b : Bool) → Word (finds x (cond b (Some o.value) (cells x.key)))
      by true = finds-fit x (Some o.value) w
      by false = h x

  left-fit : (c : Content) → FitContent c → FitContent (apply o c).1
  left-fit c h = by (changes o c)
    where
      by : (b : Bool) → FitContent (cond b (written o c) c)
      by true = written-fit c h
      by false = h

-- a read shows its answer
shown-fit : (o : Op) (answer : ℕ) → FitOp o → Word answer → FitOp (shown o answer)
shown-fit o answer f w = (f.0, f.1, f.2, word-cond (is_read o) answer o.value w f.3)

words-resumed : (l : List ℕ) (into v : ℕ) → Words l → Word v → Words (resumed l into v)
words-resumed l into v h w = by (ltb into 8)
  where
    by : (b : Bool) → Words (cond b (set l into v) l)
    by true = words-set l into v h w
    by false = h

-- a constant, as every field, is a number of 64 bits
module _ (limit : ℕ) (table : List Program) (words : (prog at : ℕ) → Word (instr_at (code_at table prog) at).b) where
  went : (p : Process) → Words p.locals → FitAdvanced Words FitOp Word (limit - p.done) p.done (gone limit table p)
  went p h =
      let g = goes Words FitOp Word (limit - p.done) (code_at table p.prog)
      (λ l at n k. fits l (instr_at (code_at table p.prog) at) n k (words p.prog at) _ refl) p.locals p.at p.done h in
      record { locals_fit = g.locals_fit; next_fit = g.next_fit; counted = g.counted }

  pub operates : (n : ℕ) (p : Process) (o : Op) (c : Content) → (limit - p.done ≤ n) × Words p.locals → (machine limit table).advance p ≡ op o
      → FitContent c → FitOp (shown o (apply o c).0) × FitContent (apply o c).1
      × ((m : ℕ) × (suc m ≤ n)
      × ((limit - ((machine limit table).resume p (apply o c).0).done ≤ m) × Words ((machine limit table).resume p (apply o c).0).locals))
  operates n p o c f e h =
      let r = gone limit table p in
      let g = went p f.1 in
      let d = operation r.stop.next o e in
      let k = g.counted o d.0 d.1 in
      let w : FitOp o = subst (FitNext Words FitOp Word) d.1 g.next_fit in
      let answer : Word (apply o c).0 = word-cond (changes o c) 0 (reads o c) (omega arith) (h o) in (
        shown-fit o (apply o c).0 w answer,
        left-fit o w.3 c h,
        (
          limit - r.stop.done,
          omega (arith, f.0, k.0, k.1),
          (
            omega arith,
            words-resumed r.locals (into_of r.stop.next) (apply o c).0 g.locals_fit answer,
          ),
        ),
      )

  pub starts : (prog a b : ℕ) → Word prog × (Word a × Word b) →
      (limit - ((machine limit table).start prog a b).done ≤ limit) × Words ((machine limit table).start prog a b).locals
  starts prog a b h =
      (omega arith, words-cons a (b ∷ replicate 6 0) h.1.0 (words-cons b (replicate 6 0) h.1.1 (words-zero 6)))

  pub stops : (n : ℕ) (p : Process) (status value : ℕ) → (limit - p.done ≤ n) × Words p.locals →
      (machine limit table).advance p ≡ stop status value → (status ≤ 1) × Word value
  stops n p status value f e = replies (gone limit table p).stop.next status value (went p f.1).next_fit e

  -- the inputs and the program number are numbers of 64 bits too
  abbrev pub bounded : Bounded (machine limit table)
  bounded =
      record {
        Fit = λ n p. (limit - p.done ≤ n) × Words p.locals;
        FitContent = FitContent;
        FitInput = λ prog a b. Word prog × (Word a × Word b);
        FitOp = FitOp;
        FitReply = λ status value. (status ≤ 1) × Word value;
        most = limit;
        starts = starts;
        operates = operates;
        stops = stops;
      }
