-- What readable programs and a readable schedule hold is in the ranges of its fields.
use Prim.Native.Nat.{ℕ, ◌%◌, ◌≤◌, ◌<◌}
use mathlib.Core.List.{List, [], ◌∷◌, ◌++◌}
use mathlib.Core.Option.{Option, none, some}
use mathlib.Core.Path.{◌≡◌, refl, subst}
use native.Mathlib.Omega.{arith}
use lib.ListN.{length, get_or}
use Rattle.basics.specs.Lists.{All}
use Rattle.basics.specs.Count.{count}
use Rattle.basics.proofs.Lists.{all_append, count-append, all_get_d}
use Rattle.basics.proofs.Tests.{clash}
use Rattle.lines.specs.Line.{InRanges, any}
use Rattle.text.specs.Formats.{do_line, program_line, arrive_line, turn_line}
use Rattle.text.specs.Programs.{no_program, instr_from, begun, with_instr, in_front_of, add_program, add_do, program_kinds, read_programs}
use Rattle.text.specs.Schedule.{arrive_from, turn_from, is_arrive, add_arrive, add_turn, schedule_kinds, read_schedule}
use Rattle.text.specs.Text.{readable}
use Rattle.text.specs.declared.programs.Instr.{Instr}
use Rattle.text.specs.declared.programs.Program.{Program}
use Rattle.text.specs.declared.schedule.Move.TheVariants.{Arrive, Turn}
use Rattle.text.specs.declared.schedule.Move.{Move}
use Rattle.text.proofs.Ranges.{Keeps, text-keeps, within-some, range_at}
use Rattle.machine.specs.Instance.{code_at}
use Rattle.machine.specs.Processes.{instr_at}
use Rattle.machine.proofs.Bounds.{Word}

-- ── the programs: a constant is a number of 64 bits ──
abbrev WordInstr : Instr → Type 0
WordInstr i = Word i.b

abbrev WordProgram : Program → Type 0
WordProgram p = All WordInstr p.code

abbrev WordPrograms : List Program → Type 0
WordPrograms ps = All WordProgram ps

do-keeps : (ps qs : List Program) (vs : List ℕ) → WordPrograms ps → InRanges do_line.largest vs → add_do ps vs ≡ some qs → WordPrograms qs
unfolding add_do
do-keeps [] qs vs g h e = clash (cc)
do-keeps (p ∷ []) qs vs g h e =
    let k = range_at do_line.largest vs 2 h (omega arith) in
    subst WordPrograms (within-some p.n 64 (with_instr p (instr_from vs) ∷ []) qs e).1
    (all_append WordInstr p.code (instr_from vs ∷ []) g.0 (omega (arith, k), tt), tt)
do-keeps (p ∷ q ∷ ps) qs vs g h e = by (add_do (q ∷ ps) vs) refl e (do-keeps (q ∷ ps))
  where
    by : (o : Option (List Program)) → add_do (q ∷ ps) vs ≡ o → in_front_of p o ≡ some qs →
        ((rs : List Program) (us : List ℕ) → WordPrograms (q ∷ ps) → InRanges do_line.largest us → add_do (q ∷ ps) us ≡ some rs →
        WordPrograms rs) → WordPrograms qs
    by (some rs) d e f = let z : p ∷ rs ≡ qs = cc in subst WordPrograms z (g.0, f rs vs g.1 h d)
    by none d e f = clash (cc)

program-keeps : Keeps WordPrograms (record { format = program_line; add = add_program })
unfolding add_program
program-keeps ps qs vs g h e =
    subst WordPrograms (within-some (length ps) 16 _ _ e).1 (all_append WordProgram ps (begun (get_or vs 0 0) ∷ []) g (tt, tt))

pub programs-words : (s : List ℕ) (ps : List Program) → read_programs s ≡ readable ps →
    (prog at : ℕ) → Word (instr_at (code_at ps prog) at).b
unfolding read_programs
programs-words s ps e prog at =
    let g = text-keeps WordPrograms program_kinds (program-keeps, (do-keeps, tt)) [] ps s tt e in
    all_get_d WordInstr _ (omega arith) (code_at ps prog) (all_get_d WordProgram no_program tt ps g prog) (at % 64)

-- ── the schedule ──
abbrev pub MoveIn : Move → Type 0
MoveIn (Arrive r prog a b) = (r ≤ 65535) × (Word prog × (Word a × Word b))
MoveIn (Turn r) = r ≤ 65535

pub record ScheduleIn (ms : List Move) : Type 0 where
  pub moves : All MoveIn ms
  pub few : count is_arrive ms ≤ 64

arrive-keeps : Keeps ScheduleIn (record { format = arrive_line; add = add_arrive })
unfolding add_arrive
arrive-keeps ms ns vs g h e =
    let at : (i : ℕ) → i < 4 → get_or vs i 0 ≤ get_or arrive_line.largest i any = λ i k. range_at arrive_line.largest vs i h k in
    let w = within-some (count is_arrive ms) 64 _ _ e in
    let r : get_or vs 0 0 ≤ 65535 = at 0 (omega arith) in
    let prog : Word (get_or vs 1 0) = omega (arith, at 1 (omega arith)) in
    let a : Word (get_or vs 2 0) = omega (arith, at 2 (omega arith)) in
    let b : Word (get_or vs 3 0) = omega (arith, at 3 (omega arith)) in
    subst ScheduleIn w.1
    (record {
      moves = all_append MoveIn ms (arrive_from vs ∷ []) g.moves ((r, (prog, (a, b))), tt);
      few = omega (arith, w.0, count-append is_arrive ms (arrive_from vs ∷ []));
    })

turn-keeps : Keeps ScheduleIn (record { format = turn_line; add = add_turn })
unfolding add_turn
turn-keeps ms ns vs g h e =
    let r : get_or vs 0 0 ≤ 65535 = omega (arith, range_at turn_line.largest vs 0 h (omega arith)) in
    let z : ms ++ turn_from vs ∷ [] ≡ ns = cc in
    subst ScheduleIn z
    (record {
      moves = all_append MoveIn ms (turn_from vs ∷ []) g.moves (r, tt);
      few = omega (arith, g.few, count-append is_arrive ms (turn_from vs ∷ []));
    })

pub schedule-in : (s : List ℕ) (ms : List Move) → read_schedule s ≡ readable ms → ScheduleIn ms
unfolding read_schedule
schedule-in s ms e =
    text-keeps ScheduleIn schedule_kinds (arrive-keeps, (turn-keeps, tt)) [] ms s (record { moves = tt; few = omega arith }) e
