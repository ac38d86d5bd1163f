-- No reduction modulo 8, 16 or 64 acts. Below stands the machine with none of them; only sums and differences are taken modulo 2^64. Of
-- programs that keep the rules a request goes on by both machines in the same way, from its arrival to its end (`same-requests`), and so the
-- audit, demand 3 and the host are the same by both (`never-reduced`).
use Rattle.std.proofs.Common.{◌≡◌, ℕ, zero, suc, ◌+◌, ◌-◌, ◌%◌, ◌^◌, ◌<◌, ◌≤◌, Bool, true, false, cond, not, ◌&&◌, ◌||◌, eqb, ltb, leb, ◌↔◌, List, [], ◌∷◌, length, get_or, set, sym, refl, ap, ◌∙◌, subst, arith, ltb-true, ne_eqb}
use mathlib.Core.Option.{none}
use borrow.Author.Tests.{eqb-false}
use Rattle.basics.specs.Lists.{All}
use Rattle.basics.proofs.Lists.{all-append-left, all-append-right}
use Rattle.basics.proofs.Tests.{clash, by_bool, and-true}
use Rattle.text.specs.Codes.{Code, reply, constant, add, subtract, less, jump, read, write, get, put, has, other, is_code, code_of}
use Rattle.text.specs.declared.programs.Instr.{Instr}
use Rattle.text.specs.declared.programs.Program.{Program}
use Rattle.text.specs.declared.report.Op.{Op}
use Rattle.text.specs.declared.schedule.Move.{Move}
use Rattle.text.specs.Programs.{no_instr, no_program, known}
use Rattle.model.specs.Audit.{audit}
use Rattle.model.specs.Batch.{Batch}
use Rattle.model.specs.FirstBad.{first_bad}
use Rattle.model.specs.Demand.{Demand3}
use Rattle.model.specs.Host.{recorded}
use Rattle.model.specs.Machine.{Machine, op}
use Rattle.machine.specs.declared.instructions.Act.{Act}
use Rattle.machine.specs.declared.instructions.Act.TheVariants.{Goes, Asks, Replies}
use Rattle.machine.specs.declared.processes.Next.TheVariants.{Operation, Reply, Cut}
use Rattle.machine.specs.Instance.{Process, next_of, code_at, resumed_with, machine_by}
use Rattle.machine.specs.Instance as instance
use Rattle.machine.specs.Instructions.{Effect, effect, bit, no_local}
use Rattle.machine.specs.Instructions as instructions
use Rattle.machine.specs.Objects.{Content}
use Rattle.machine.specs.Processes.{Advanced, advanced, stop_at, behind, instr_at}
use Rattle.machine.specs.Processes as processes
use Rattle.machine.specs.Rules.{
  fields_of,
  fits_as,
  keeps_fields,
  Line,
  program,
  instruction,
  instruction_lines,
  lines_from,
  keeps_rules,
  row2,
}
use Rattle.machine.specs.declared.rules.Field.TheVariants.{Local, Register, Store, Target}
use Rattle.machine.proofs.Bounds.{operation}
use Rattle.machine.proofs.SameHosts.{recorded-same}
use Rattle.machine.proofs.SameReplays.{Agree, audit-same, demand-same}
use Rattle.machine.proofs.Scan.{room}
use Rattle.machine.proofs.Steps.{follow}

-- ── the machine, with nothing reduced but sums and differences ──
abbrev pub local : List ℕ → ℕ → ℕ
local l i = get_or l i 0

abbrev pub becomes : List ℕ → Instr → ℕ → ℕ → Effect
becomes l i v n = effect (set l i.a v) (Goes n)

abbrev pub asks : List ℕ → Instr → (object key value into : ℕ) → Effect
asks l i object key value into = effect l (Asks (record { object = object; kind = i.code; key = key; value = value }) into)

unfoldable pub effect_as : Code → List ℕ → Instr → ℕ → Effect
effect_as reply l i n = effect l (Replies (local l i.a))
effect_as constant l i n = becomes l i i.b n
effect_as add l i n = becomes l i ((local l i.b + local l i.c) % 2 ^ 64) n
effect_as subtract l i n = becomes l i ((local l i.b + (2 ^ 64 - local l i.c)) % 2 ^ 64) n
effect_as less l i n = becomes l i (bit (ltb (local l i.b) (local l i.c))) n
effect_as jump l i n = effect l (Goes (cond (eqb (local l i.a) 0) n i.b))
effect_as read l i n = asks l i i.b 0 0 i.a
effect_as write l i n = asks l i i.a 0 (local l i.b) no_local
effect_as get l i n = asks l i i.b (local l i.c) 0 i.a
effect_as put l i n = asks l i i.a (local l i.b) (local l i.c) no_local
effect_as has l i n = asks l i i.b (local l i.c) 0 i.a
effect_as other l i n = effect l (Goes n)

abbrev pub effect_of : List ℕ → Instr → ℕ → Effect
effect_of l i n = effect_as (code_of i.code) l i n

unfoldable pub go : (k : ℕ) → List Instr → List ℕ → (at done : ℕ) → Advanced
go zero p l at done = advanced l (stop_at at done Cut) []
go (suc k) p l at done =
    let e = effect_of l (get_or p at no_instr) (at + 1) in
    behind (at ∷ [])
    (elim e.act [
      | Goes to ↦ go k p e.locals to (done + 1)
      | Asks o into ↦ advanced e.locals (stop_at (at + 1) (done + 1) (Operation o into)) []
      | Replies v ↦ advanced e.locals (stop_at (at + 1) (done + 1) (Reply v)) []
    ])

module _ (limit : ℕ) (table : List Program) where
  abbrev pub gone : Process → Advanced
  gone p = behind p.path (go (limit - p.done) (code_at table p.prog) p.locals p.at p.done)

  abbrev pub unreduced : Machine
  unreduced = machine_by gone

-- ── a program that keeps the rules ──
abbrev Keeps : Line → Type 0
Keeps l = keeps_rules l ≡ true

record KeepsAll (p : Program) : Type 0 where
  some : 0 < p.n
  few : p.n ≤ 64
  instr : (j : ℕ) → j < p.n → Keeps (instruction j p.n (get_or p.code j no_instr))

none-broken : (n : ℕ) (past ls : List Line) → first_bad (λ past l. not (keeps_rules l)) n past ls ≡ none → All Keeps ls
none-broken n past [] e = tt
none-broken n past (l ∷ ls) e =
    by_bool (keeps_rules l) (λ d. (d, none-broken (suc n) (l ∷ past) ls (rw d at e))) (λ d. let f = rw d at e in clash (cc))

instructions-keep : (k j : ℕ) (p : Program) → All Keeps (instruction_lines k j p) →
    (i : ℕ) → i < k → Keeps (instruction (j + i) p.n (get_or p.code (j + i) no_instr))
instructions-keep zero j p a i h = absurd (omega arith)
instructions-keep (suc k) j p a zero h = let z : j + 0 ≡ j = omega arith in rw z a.0
instructions-keep (suc k) j p a (suc i) h =
    let z : j + suc i ≡ suc j + i = omega arith in
    rw z (instructions-keep k (suc j) p a.1 i (omega arith))

program-keeps : (k : ℕ) (p : Program) → Keeps (program k p.number p.n) → All Keeps (instruction_lines p.n 0 p) → KeepsAll p
program-keeps k p e a =
    let f = (and-true (eqb p.number k) (not (eqb p.n 0) && leb p.n 64) e).1 in
    record {
      some = by_bool (eqb p.n 0) (λ t. let g = rw t at f in clash (cc)) (λ t. let d = eqb-false p.n 0 t in omega arith);
      few = room k p.number p.n e;
      instr = λ j h. let z : 0 + j ≡ j = omega arith in rw z at (instructions-keep p.n 0 p a j h);
    }

programs-keep : (k : ℕ) (ps : List Program) → All Keeps (lines_from k ps) → (prog : ℕ) → prog < length ps → KeepsAll (get_or ps prog no_program)
programs-keep k [] a prog h = absurd (omega arith)
programs-keep k (p ∷ ps) a zero h =
    program-keeps k p a.0 (all-append-left Keeps (instruction_lines p.n 0 p) (lines_from (suc k) ps) a.1)
programs-keep k (p ∷ ps) a (suc prog) h =
    programs-keep (suc k) ps (all-append-right Keeps (instruction_lines p.n 0 p) (lines_from (suc k) ps) a.1) prog (omega arith)

-- ── one instruction ──
module _ (n : ℕ) (l : List ℕ) (i : Instr) where
  -- what the rules say of the fields of a code
  abbrev Fit : Code → Type 0
  Fit code =
      let f = fields_of code in
      (fits_as f.0 n i.a ≡ true) × (fits_as f.1 n i.b ≡ true) × (fits_as f.2 n i.c ≡ true)

  fit : keeps_fields n i ≡ true → Fit (code_of i.code)
  fit e =
      let f = fields_of (code_of i.code) in
      let a = fits_as f.0 n i.a in
      let b = fits_as f.1 n i.b in
      let c = fits_as f.2 n i.c in
      let all = and-true a (b && c) (and-true (is_code i.code) (a && (b && c)) e).1 in
      let rest = and-true b c all.1 in
      (all.0, rest.0, rest.1)

  below8 : (v : ℕ) → fits_as Local n v ≡ true → v % 8 ≡ v
  below8 v e = let h = ltb-true v 8 e in omega arith

  register : (v : ℕ) → fits_as Register n v ≡ true → v % 16 ≡ v
  register v e = let h = ltb-true v 8 e in omega arith

  store : (v : ℕ) → fits_as Store n v ≡ true → v % 16 ≡ v
  store v e = let h = ltb-true v 16 (and-true (leb 8 v) (ltb v 16) e).1 in omega arith

  module _ (next : ℕ) where
    effect-same : (code : Code) → Fit code → instructions.effect_as code l i next ≡ effect_as code l i next
    unfolding instructions.effect_as effect_as
    effect-same reply f = rw (below8 i.a f.0)
    effect-same constant f = rw (below8 i.a f.0)
    effect-same add f = rw (below8 i.a f.0, below8 i.b f.1, below8 i.c f.2)
    effect-same subtract f = rw (below8 i.a f.0, below8 i.b f.1, below8 i.c f.2)
    effect-same less f = rw (below8 i.a f.0, below8 i.b f.1, below8 i.c f.2)
    effect-same jump f = rw (below8 i.a f.0)
    effect-same read f = rw (below8 i.a f.0, register i.b f.1)
    effect-same write f = rw (register i.a f.0, below8 i.b f.1)
    effect-same get f = rw (below8 i.a f.0, store i.b f.1, below8 i.c f.2)
    effect-same put f = rw (store i.a f.0, below8 i.b f.1, below8 i.c f.2)
    effect-same has f = rw (below8 i.a f.0, store i.b f.1, below8 i.c f.2)
    effect-same other f = refl

    -- where the request goes on is a position of its program
    abbrev Lands : Act → Type 0
    Lands (Goes to) = to < n
    Lands (Asks o into) = next < n
    Lands (Replies v) = Unit {0}

    either : (b : Bool) → next < n → fits_as Target n i.b ≡ true → cond b next i.b < n
    either true h e = h
    either false h e = ltb-true i.b n e

    -- where another instruction stands behind this one
    onward : (code : Code) → Fit code → next < n → Lands (effect_as code l i next).act
    unfolding effect_as
    onward reply f h = tt
    onward constant f h = h
    onward add f h = h
    onward subtract f h = h
    onward less f h = h
    onward jump f h = either (eqb (local l i.a) 0) h f.1
    onward read f h = h
    onward write f h = h
    onward get f h = h
    onward put f h = h
    onward has f h = h
    onward other f h = h

    -- only the last has none behind it, and its code is 0
    lands : (code : ℕ) → Fit (code_of code) → (ltb next n || eqb code 0) ≡ true → Lands (effect_as (code_of code) l i next).act
    unfolding effect_as
    lands zero f e = tt
    lands (suc code) f e =
        onward (code_of (suc code)) f
        (by_bool (ltb next n) (ltb-true next n) (λ t. let g = rw (t, ne_eqb (suc code) 0 (λ d. absurd (omega arith))) at e in clash (cc)))

-- ── a request as it goes on ──
-- r and s are the same, and behind an operation stands a position below n
record Same (n : ℕ) (r s : Advanced) : Type 0 where
  same : r ≡ s
  inside : (o : Op) (into : ℕ) → r.stop.next ≡ Operation o into → r.stop.at < n

follows : (n : ℕ) (f g : List ℕ → ℕ → Advanced) → ((l : List ℕ) (to : ℕ) → to < n → Same n (f l to) (g l to)) →
    (at next done : ℕ) (l : List ℕ) (i : Instr) (m : List ℕ) (x : Act) → Lands n l i next x →
    Same n (behind (at ∷ []) (follow x m next done f)) (behind (at ∷ []) (follow x m next done g))
follows n f g h at next done l i m (Goes to) k =
    record { same = ap (behind (at ∷ [])) (h m to k).same; inside = (h m to k).inside }
follows n f g h at next done l i m (Asks o into) k = record { same = refl; inside = λ o into e. k }
follows n f g h at next done l i m (Replies v) k = record { same = refl; inside = λ o into e. clash (cc) }

module _ (p : Program) (g : KeepsAll p) where
  goes : (k : ℕ) (l : List ℕ) (at done : ℕ) → at < p.n → Same p.n (processes.go k p.code l at done) (go k p.code l at done)
  unfolding processes.go go
  goes zero l at done h = record { same = refl; inside = λ o into e. clash (cc) }
  goes (suc k) l at done h =
      let i = get_or p.code at no_instr in
      let rules = and-true (keeps_fields p.n i) (ltb (at + 1) p.n || eqb i.code 0) (g.instr at h) in
      let f = fit p.n l i rules.0 in
      let here : at % 64 ≡ at = omega (arith, h, g.few) in
      let e : instructions.effect_of l (instr_at p.code at) (at % 64 + 1) ≡ effect_of l i (at + 1) =
      ap (λ j. instructions.effect_of l (get_or p.code j no_instr) (j + 1)) here ∙ effect-same p.n l i (at + 1) (code_of i.code) f in
      subst (λ r. Same p.n r (go (suc k) p.code l at done))
      (sym (λ j. behind (here j ∷ [])
      (follow (e j).act (e j).locals (here j + 1) (done + 1) (λ m to. processes.go k p.code m to (done + 1)))))
      (follows p.n _ _ (λ m to. goes k m to (done + 1)) at (at + 1) (done + 1) l i (effect_of l i (at + 1)).locals
      (effect_of l i (at + 1)).act (lands p.n l i (at + 1) i.code f rules.1))

-- ── a request from its arrival on ──
-- the processes that a request of a known program comes to, whatever its inputs and the answers of its operations are
pub data Reached (M : Machine) (known : ℕ → Bool) : M.Process → Type 0 where
  arrived : (prog a b : ℕ) → known prog ≡ true → Reached M known (M.start prog a b)
  answered : (p : M.Process) (o : Op) (v : ℕ) → Reached M known p → M.advance p ≡ op o → Reached M known (M.resume p v)

module _ (limit : ℕ) (table : List Program) (rules : row2 table ≡ none) where
  abbrev M : Machine
  M = instance.machine limit table

  abbrev N : Machine
  N = unreduced limit table

  keeps : (prog : ℕ) → prog < length table → KeepsAll (get_or table prog no_program)
  keeps = programs-keep 0 table (none-broken 1 [] (lines_from 0 table) rules)

  -- a process of a known program, at a position of it
  record Inside (p : Process) : Type 0 where
    is_known : p.prog < length table
    is_below : p.at < (get_or table p.prog no_program).n

  gone_same : (p : Process) → Inside p → Same (get_or table p.prog no_program).n (instance.gone limit table p) (gone limit table p)
  gone_same p h =
      let s = goes (get_or table p.prog no_program) (keeps p.prog h.is_known) (limit - p.done) p.locals p.at p.done
      h.is_below in
      record { same = ap (behind p.path) s.same; inside = s.inside }

  starts : (prog a b : ℕ) → known table prog ≡ true → Inside (M.start prog a b)
  starts prog a b k = let h = ltb-true prog (length table) k in record { is_known = h; is_below = (keeps prog h).some }

  stays : (p : Process) (o : Op) (v : ℕ) → Inside p → M.advance p ≡ op o → Inside (M.resume p v)
  stays p o v h e =
      let d = operation (instance.gone limit table p).stop.next o e in
      record { is_known = h.is_known; is_below = (gone_same p h).inside o d.0 d.1 }

  inside : (p : Process) → Reached M (known table) p → Inside p
  inside p (arrived prog a b k) = starts prog a b k
  inside p (answered q o v r e) = stays q o v (inside q r) e

  -- a request goes on, resumes and ends in the same way by both machines
  pub same-requests : (p : Process) → Reached M (known table) p →
      (M.advance p ≡ N.advance p) × ((v : ℕ) → M.resume p v ≡ N.resume p v) × (M.path_at_end p ≡ N.path_at_end p)
  same-requests p r =
      let s = (gone_same p (inside p r)).same in
      (ap (λ x. next_of x.stop.next) s, λ v. ap (resumed_with p.prog v) s, ap (λ x. p.prog ∷ x.path) s)

  agree : Agree (instance.gone limit table) (gone limit table) (known table)
  agree = record { At = Inside; same = λ p h. (gone_same p h).same; starts = starts; stays = stays }

  -- Where no program rule is broken, the audit's verdict, demand 3 and what the host writes are those of the machine that reduces nothing.
  pub never-reduced : (opening : ℕ → Content) →
      ((b : Batch) → audit M opening (known table) b ≡ audit N opening (known table) b)
      × ((b : Batch) → Demand3 M opening (known table) b ↔ Demand3 N opening (known table) b)
      × ((most objects : ℕ) (ms : List Move) →
      recorded M (known table) most objects opening ms ≡ recorded N (known table) most objects opening ms)
  never-reduced opening = (
    λ b. audit-same _ _ (known table) agree opening b,
    λ b. demand-same _ _ (known table) agree opening b,
    λ most objects ms. recorded-same _ _ (known table) agree most objects ms opening,
  )
