-- One line joins the programs, or may not stand behind them.
use Rattle.std.proofs.Common.{◌≡◌, ℕ, ◌+◌, ◌<◌, ◌≤◌, Bool, true, false, cond, List, [], ◌∷◌, ◌++◌, length, get_or, take, set, replicate, refl, sym, ap, subst, ◌∙◌, arith, add-one, Result, Ok, Err, IfOk}
use mathlib.Core.Option.{some, none}
use lib.ListN.{length-set, length-replicate, get_or-eq_default, get_or-replicate}
use lib.Seq.{get_or-set_same, get_or-set_other, take-suc-set}
use lib.Dec.{ltb}
use borrow.Author.Tests.{ltb-true, ltb-false}
use Rattle.std.specs.Result.{is_ok, is_err}
use Rattle.basics.specs.Firsts.{firsts}
use Rattle.basics.proofs.Firsts.{firsts-length, firsts_more}
use Rattle.basics.proofs.Tests.{clash, by_bool, by_eq}
use Rattle.text.specs.Text.{readable, read_text}
use Rattle.text.specs.Programs.{no_instr, no_program, begun, with_instr, in_front_of, add_do, program_kinds, read_programs}
use Rattle.text.specs.Held.{read_in, trimmed, program_at, table_in, Bounded, blank_program, no_programs, ProgramsIs}
use Rattle.text.specs.Steps.{AddIs, program_adds, grown, Filling}
use Rattle.text.specs.declared.reading.BadLine.{BadLine}
use Rattle.text.specs.declared.programs.Instr.{Instr}
use Rattle.text.specs.declared.programs.Program.{Program}
use Rattle.text.specs.declared.programs.Programs.{Programs}
use Rattle.text.specs.declared.programs.ProgramLine.TheVariants.{Program as Begin, Do}
use Rattle.text.proofs.ReadLines.{within-yes, within-no}

-- ── an instruction joins the last program ──

abbrev numbers : Instr → List ℕ
numbers x = x.code ∷ x.a ∷ x.b ∷ x.c ∷ []

do-last : (ps : List Program) (p : Program) (x : Instr) → p.n < 64 →
    add_do (ps ++ p ∷ []) (numbers x) ≡ some (ps ++ with_instr p x ∷ [])
unfolding add_do
do-last [] p x h = within-yes p.n 64 _ h
do-last (q ∷ []) p x h = ap (in_front_of q) (do-last [] p x h)
do-last (q ∷ r ∷ ps) p x h = ap (in_front_of q) (do-last (r ∷ ps) p x h)

do-full : (ps : List Program) (p : Program) (x : Instr) → 64 ≤ p.n → add_do (ps ++ p ∷ []) (numbers x) ≡ none
unfolding add_do
do-full [] p x h = within-no p.n 64 _ h
do-full (q ∷ []) p x h = ap (in_front_of q) (do-full [] p x h)
do-full (q ∷ r ∷ ps) p x h = ap (in_front_of q) (do-full (r ∷ ps) p x h)

-- ── one program more ──

pub blank-bounded : (number : ℕ) → Bounded (blank_program number)
blank-bounded number =
    record {
      few = omega arith;
      blank = λ (j : ℕ). λ (h : 0 ≤ j). by_bool (ltb j 64)
          (λ t. get_or-replicate 64 j no_instr no_instr (ltb-true j 64 t))
          (λ t. get_or-eq_default (replicate 64 no_instr) no_instr {n = j}
          (omega (arith, ltb-false j 64 t, length-replicate 64 no_instr)));
    }

-- the table with program k set, which is one of the first k + 1
module _ (table : List Program) (k : ℕ) (q : Program) (room : length table ≡ 16) (h : k < 16) where
  abbrev after : List Program
  after = set table k q

  same : get_or after k no_program ≡ q
  same = get_or-set_same table k q no_program (omega (arith, room))

  other : (i : ℕ) → i < k → get_or after i no_program ≡ get_or table i no_program
  other i j = get_or-set_other table k i q no_program (λ (e : i ≡ k). absurd (omega arith))

  after-table : firsts (program_at after) (k + 1) ≡ firsts (program_at table) k ++ trimmed q ∷ []
  unfolding program_at
  after-table = firsts_more (program_at after) (program_at table) k (trimmed q) (λ i j. ap trimmed (other i j)) (ap trimmed same)

  -- what holds of the programs before it and of it holds of all
  after-all : (P : Program → Type 0) → ((i : ℕ) → i < k → P (get_or table i no_program)) → P q →
      (i : ℕ) → i < k + 1 → P (get_or after i no_program)
  after-all P before here i j =
      by_eq i k
      (λ e _. subst (λ i. P (get_or after i no_program)) (sym e) (subst P (sym same) here))
      (λ d _. let l : i < k = omega arith in subst P (sym (other i l)) (before i l))

module _ (ps : Programs) (h : Filling ps) where
  pub begin-full : (number : ℕ) → 16 ≤ ps.n → program_adds (Begin number) (table_in ps) ≡ none
  begin-full number g = within-no (length (table_in ps)) 16 _ (omega (arith, firsts-length (program_at ps.table) ps.n))

  pub begin-joins : (number : ℕ) → ps.n < 16 → (qs : Programs) → qs.n ≡ ps.n + 1 → qs.table ≡ set ps.table ps.n (blank_program number) →
      (program_adds (Begin number) (table_in ps) ≡ some (table_in qs)) × Filling qs
  begin-joins number g qs n t =
      let p = blank_program number in
      let w : table_in qs ≡ table_in ps ++ begun number ∷ [] = rw (n, t) (after-table ps.table ps.n p h.room g) in (
        within-yes (length (table_in ps)) 16 _ (omega (arith, firsts-length (program_at ps.table) ps.n)) ∙ ap some (sym w),
        record {
          few = omega arith;
          bounded = rw (n, t) (after-all ps.table ps.n p h.room g Bounded h.bounded (blank-bounded number));
          sized = rw (n, t) (after-all ps.table ps.n p h.room g (λ p. length p.code ≡ 64) h.sized (length-replicate 64 no_instr));
          room = ap length t ∙ length-set ps.table ps.n p ∙ h.room;
        },
      )

  pub do-early : (x : Instr) → ps.n ≡ 0 → program_adds (Do x) (table_in ps) ≡ none
  unfolding firsts add_do
  do-early x e = rw e refl

  -- the last program
  module _ (k : ℕ) (e : ps.n ≡ k + 1) (x : Instr) where
    abbrev last : Program
    last = get_or ps.table k no_program

    split : table_in ps ≡ firsts (program_at ps.table) k ++ trimmed last ∷ []
    unfolding firsts program_at
    split = rw (e, add-one k) refl

    grown-bounded : last.n < 64 → Bounded (grown last x)
    grown-bounded g =
        let b = h.bounded k (omega arith) in
        record {
          few = omega arith;
          blank = λ (j : ℕ). λ (l : last.n + 1 ≤ j).
              get_or-set_other last.code last.n j x no_instr (λ (z : j ≡ last.n). absurd (omega arith)) ∙ b.blank j (omega arith);
        }

    grown-trimmed : last.n < 64 → trimmed (grown last x) ≡ with_instr (trimmed last) x
    grown-trimmed g =
        let s = h.sized k (omega arith) in
        let c : take (last.n + 1) (set last.code last.n x) ≡ take last.n last.code ++ x ∷ [] =
        rw (add-one last.n) (take-suc-set last.code last.n x (omega arith)) in
        let q = add-one last.n in
        λ i. record { number = last.number; n = q i; code = c i }

    pub do-joins : (b : Bool) → b ≡ ltb last.n 64 → (q : Program) → q ≡ cond b (grown last x) last → (qs : Programs) → qs.n ≡ ps.n →
        qs.table ≡ set ps.table k q → AddIs (program_adds (Do x) (table_in ps)) (table_in qs) (Filling qs) b
    do-joins false i q d qs n t =
        rw split (do-full (firsts (program_at ps.table) k) (trimmed last) x (ltb-false last.n 64 (sym i)))
    do-joins true i q d qs n t =
        let g = ltb-true last.n 64 (sym i) in
        let l : k < 16 = omega (arith, h.few) in
        let w : table_in qs ≡ firsts (program_at ps.table) k ++ with_instr (trimmed last) x ∷ [] =
        rw (n, e, t) (after-table ps.table k q h.room l) ∙ ap (λ q. firsts (program_at ps.table) k ++ q ∷ []) (ap trimmed d ∙ grown-trimmed g) in (
          rw split (do-last (firsts (program_at ps.table) k) (trimmed last) x g) ∙ ap some (sym w),
          record {
            few = omega (arith, h.few);
            bounded = rw (n, e, t) (after-all ps.table k q h.room l Bounded (λ i j. h.bounded i (omega arith)) (rw d (grown-bounded g)));
            sized = rw (n, e, t) (after-all ps.table k q h.room l (λ p. length p.code ≡ 64) (λ i j. h.sized i (omega arith))
                (rw d (length-set last.code last.n x ∙ h.sized k (omega arith))));
            room = ap length t ∙ length-set ps.table k q ∙ h.room;
          },
        )

-- ── what was read is what the table holds ──
pub table-read : (s : List ℕ) (r : Result (Unit {0}) BadLine) (ps : Programs) → ProgramsIs s r ps → is_ok r ≡ true →
    readable (table_in ps) ≡ read_programs s
unfolding read_in
table-read s (Ok u) ps h ok = h.read
table-read s (Err e) ps h ok = clash (cc)

-- a readable text fills the table, and an unreadable one leaves no programs
pub programs-filled : (s : List ℕ) (r : Result (Unit {0}) BadLine) (ps : Programs) → is_err r ≡ false →
    read_in r (table_in ps) ≡ read_text program_kinds [] s → IfOk r (λ _. (at : ℕ) × Filling ps) → ProgramsIs s r ps
unfolding read_programs
programs-filled s (Ok u) ps e h f =
    record { read = h; unread = λ z. clash (cc); few = f.1.few; bounded = f.1.bounded; room = f.1.room }
programs-filled s (Err x) ps e h f = clash (cc)

pub programs-unread : (s : List ℕ) (r : Result (Unit {0}) BadLine) (ps qs : Programs) → is_err r ≡ true →
    read_in r (table_in ps) ≡ read_text program_kinds [] s → qs ≡ no_programs → ProgramsIs s r qs
unfolding read_programs read_in
programs-unread s (Ok u) ps qs e h d = clash (cc)
programs-unread s (Err x) ps qs e h d =
    record {
      read = h;
      unread = λ z. d;
      few = rw d (omega arith);
      bounded = rw d (λ i j. absurd (omega arith));
      room = rw d refl;
    }
