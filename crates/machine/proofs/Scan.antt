-- Laws of the scan of the program rules: what one line does to it.
use Rattle.std.proofs.Common.{◌≡◌, ℕ, suc, ◌+◌, ◌-◌, ◌*◌, ◌<◌, ◌≤◌, Bool, true, false, cond, not, ◌&&◌, eqb, leb, List, [], ◌∷◌, ◌++◌, length, get_or, take, drop, sym, refl, ap, ◌∙◌, add-one, arith, drop_of_length-le, drop-cons, length-take, get_or-take, leb-true}
use mathlib.Core.Option.{Option, none, some}
use Rattle.basics.specs.Firsts.{firsts}
use Rattle.basics.proofs.Firsts.{firsts-length, firsts_at}
use Rattle.basics.proofs.Tests.{and-true}
use Rattle.text.specs.declared.programs.Program.{Program}
use Rattle.text.specs.Held.{trimmed, program_at}
use Rattle.text.specs.Programs.{no_instr, no_program}
use Rattle.model.specs.FirstBad.{first_bad}
use Rattle.machine.specs.Rules.{Line, program, instruction, instruction_lines, lines_from, keeps_rules, row2}

-- the first line that breaks a rule, of lines that are numbered from n on
abbrev first_broken : ℕ → List Line → Option ℕ
first_broken n ls = first_bad (λ past l. not (keeps_rules l)) n [] ls

-- what stands above is not looked at
unseen : (n : ℕ) (past : List Line) (ls : List Line) → first_bad (λ past l. not (keeps_rules l)) n past ls ≡ first_broken n ls
unseen n past [] = refl
unseen n past (l ∷ ls) =
    ap (cond (not (keeps_rules l)) (some n)) (unseen (suc n) (l ∷ past) ls ∙ sym (unseen (suc n) (l ∷ []) ls))

module _ (n : ℕ) (l : Line) (ls : List Line) where
  kept : keeps_rules l ≡ true → first_broken n (l ∷ ls) ≡ first_broken (n + 1) ls
  kept e = rw (e, add-one) (unseen (suc n) (l ∷ []) ls)

  broken : keeps_rules l ≡ false → first_broken n (l ∷ ls) ≡ some n
  broken e = rw e

-- the line of program k of a table, and of its instruction j
module _ (t : List Program) (k : ℕ) where
  abbrev p : Program
  p = get_or t k no_program

  abbrev pub program_line : Line
  program_line = program k p.number p.n

  abbrev pub instruction_line : ℕ → Line
  instruction_line j = instruction j p.n (get_or p.code j no_instr)

-- the lines of what stands in front of a table, and in front of a program's code, are those of the whole
pub program-in : (t : List Program) (m k : ℕ) (b : Bool) → k < length (take m t) →
    keeps_rules (program k (get_or (take m t) k no_program).number (get_or (take m t) k no_program).n) ≡ b → keeps_rules (program_line t k) ≡ b
program-in t m k b h e = let l : k < m = omega (arith, length-take m t) in rw (get_or-take m t k no_program l) at e

pub instruction-in : (t : List Program) (m k j : ℕ) (b : Bool) → k < length (take m t) →
    let p = get_or (take m t) k no_program in
    j < length (take p.n p.code) → keeps_rules (instruction j p.n (get_or (take p.n p.code) j no_instr)) ≡ b →
    (keeps_rules (instruction_line t k j) ≡ b) × (j < (get_or t k no_program).n)
instruction-in t m k j b h g e =
    let l : k < m = omega (arith, length-take m t) in
    let same = get_or-take m t k no_program l in
    let p = get_or (take m t) k no_program in
    let i : j < p.n = omega (arith, length-take p.n p.code) in
    (rw same at (rw (get_or-take p.n p.code j no_instr i) at e), rw same at i)

-- a program whose line keeps the rules has at most 64 instructions
pub room : (k number n : ℕ) → keeps_rules (program k number n) ≡ true → n ≤ 64
room k number n e = leb-true _ _ (and-true (not (eqb n 0)) (leb n 64) (and-true (eqb number k) (not (eqb n 0) && leb n 64) e).1).1

module _ (t : List Program) (m : ℕ) where
  -- the first m programs
  abbrev all : List Program
  all = firsts (program_at t) m

  -- No line above that of program k, or above that of its instruction j, breaks a rule. A program has 65 lines at most, so that the line
  -- does not wrap.
  pub record AtProgram (k line : ℕ) : Type 0 where
    pub within : k ≤ m
    pub few : line ≤ 65 * k + 1
    pub same : first_broken line (lines_from k (drop k all)) ≡ row2 all

  abbrev from_instruction : ℕ → ℕ → List Line
  from_instruction k j = instruction_lines ((p t k).n - j) j (trimmed (p t k)) ++ lines_from (k + 1) (drop (k + 1) all)

  pub record AtInstruction (k j line : ℕ) : Type 0 where
    pub within : k < m
    pub short : (p t k).n ≤ 64
    pub inside : j ≤ (p t k).n
    pub few : line ≤ 65 * k + 2 + j
    pub same : first_broken line (from_instruction k j) ≡ row2 all

module _ {t : List Program} {m : ℕ} where
  pub scan-start : AtProgram t m 0 1
  scan-start = record { within = omega arith; few = omega arith; same = refl }

  module _ {k line : ℕ} (s : AtProgram t m k line) where
    more : k < m → lines_from k (drop k (all t m)) ≡ program_line t k ∷ from_instruction t m k 0
    unfolding program_at
    more h =
        let l = firsts-length (program_at t) m in
        let z : (p t k).n - 0 ≡ (p t k).n = omega arith in
        rw (drop-cons (all t m) k no_program (omega arith), firsts_at (program_at t) m k no_program h, z, add-one)

    pub program-kept : k < m → keeps_rules (program_line t k) ≡ true → AtInstruction t m k 0 (line + 1)
    program-kept h e =
        record {
          within = h;
          short = room k (p t k).number (p t k).n e;
          inside = omega arith;
          few = omega (arith, s.few);
          same = sym (ap (first_broken line) (more h) ∙ kept line (program_line t k) (from_instruction t m k 0) e) ∙ s.same;
        }

    pub program-broken : k < m → keeps_rules (program_line t k) ≡ false → some line ≡ row2 (all t m)
    program-broken h e = sym (ap (first_broken line) (more h) ∙ broken line (program_line t k) (from_instruction t m k 0) e) ∙ s.same

    pub programs-end : m ≤ k → none ≡ row2 (all t m)
    programs-end h =
        let l = firsts-length (program_at t) m in
        rw (drop_of_length-le (all t m) {i = k} (omega arith)) at s.same

  module _ {k j line : ℕ} (s : AtInstruction t m k j line) where
    next : j < (p t k).n → from_instruction t m k j ≡ instruction_line t k j ∷ from_instruction t m k (j + 1)
    next h =
        let z : (p t k).n - j ≡ suc ((p t k).n - (j + 1)) = omega arith in
        let w : suc j ≡ j + 1 = omega arith in
        rw (z, w, get_or-take (p t k).n (p t k).code j no_instr h)

    pub instruction-kept : j < (p t k).n → keeps_rules (instruction_line t k j) ≡ true → AtInstruction t m k (j + 1) (line + 1)
    instruction-kept h e =
        record {
          within = s.within;
          short = s.short;
          inside = omega arith;
          few = omega (arith, s.few);
          same = sym (ap (first_broken line) (next h) ∙ kept line (instruction_line t k j) (from_instruction t m k (j + 1)) e) ∙ s.same;
        }

    pub instruction-broken : j < (p t k).n → keeps_rules (instruction_line t k j) ≡ false → some line ≡ row2 (all t m)
    instruction-broken h e =
        sym (ap (first_broken line) (next h) ∙ broken line (instruction_line t k j) (from_instruction t m k (j + 1)) e) ∙ s.same

    pub instructions-end : (p t k).n ≤ j → AtProgram t m (k + 1) line
    instructions-end h =
        let z : (p t k).n - j ≡ 0 = omega arith in
        record { within = omega (arith, s.within); few = omega (arith, s.few, s.inside, s.short); same = rw z at s.same }
