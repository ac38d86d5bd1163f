-- The checks of the reference host in their order: each refusal is that of `record_of`, and so is what is written.
use Rattle.std.proofs.Common.{◌≡◌, ℕ, min, List, [], ◌∷◌, refl, sym, ap, subst, ◌∙◌, arith, Result as Answer, Ok, Err}
use Rattle.basics.specs.Lists.{All}
use Rattle.basics.specs.Firsts.{firsts}
use Rattle.lines.specs.Put.{front}
use Rattle.text.specs.Held.{read_in, moves_in, program_at, ProgramsIs, table_in}
use Rattle.text.specs.Schedule.{read_schedule}
use Rattle.text.specs.Text.{Read, readable, unreadable}
use Rattle.text.specs.declared.programs.Program.{Program}
use Rattle.text.specs.declared.programs.Programs.{Programs}
use Rattle.text.specs.declared.reading.BadLine.{BadLine}
use Rattle.text.specs.declared.schedule.Move.TheVariants.{Arrive, Turn}
use Rattle.text.specs.declared.schedule.Move.{Move}
use Rattle.text.specs.declared.schedule.Schedule.{Schedule}
use Rattle.model.specs.Batch.{Batch}
use Rattle.model.specs.Checks.{fault_or, bad_line, contents}
use Rattle.model.specs.Host.{Host, Result, fault, made, batch_written, and_then}
use Rattle.model.proofs.Scans.{holds, passes}
use Rattle.machine.specs.Held.{ObjectsHeld}
use Rattle.machine.specs.Objects.{at_start}
use Rattle.machine.specs.Rules.{broken_line, row2}
use Rattle.machine.proofs.Performing.{no-objects-start}
use Rattle.host.specs.Recorded.{run_of, batch_from, batch_recorded, Texts, texts_of, fitted, record_of, RecordIs}
use Rattle.host.specs.Runs.{M, RidIn, Known, Scheduled, Ready, Finished, RunIs, RunsFrom, batch_kept, blank, full_table, ran, recorded_moves}
use Rattle.host.specs.Steps.{number_of, line_of, recorded_of}
use Rattle.host.specs.declared.outputs.Written.{Written}
use Rattle.host.specs.declared.refusals.Refusal.{Refusal}
use Rattle.host.specs.declared.runs.Run.{Run}
use Rattle.host.proofs.Finishing.{texts-are}
use Rattle.host.proofs.Readings.{MoveIn, schedule-in}
use Rattle.host.proofs.Tables.{recorded-same}

-- a refusal writes nothing
pub refuses : (x : Result Texts) (o p : List ℕ) (r : Answer Written Refusal) (f : Refusal) → r ≡ Err f → x ≡ fault (number_of f) (line_of f) →
    RecordIs x o p o p (recorded_of r)
unfolding front
refuses x o p r f d e = rw (d, e) (record { result = refl; trace_bytes = refl; report_bytes = refl })

-- ── rows 1, 2 and 13 ──
rids-in : (ms : List Move) → All MoveIn ms → All RidIn ms
rids-in [] h = tt
rids-in (Arrive r prog a b ∷ ms) h = (omega (arith, h.0.0), rids-in ms h.1)
rids-in (Turn r ∷ ms) h = (omega (arith, h.0), rids-in ms h.1)

module _ (s schedule : List ℕ) (u v : ℕ) (ps : Programs) (p : Answer Unit BadLine) (h : ProgramsIs s p ps) where
  -- what is made of a batch, and of texts that were read
  abbrev fit : Result Batch → Result Texts
  fit x = and_then x (λ b. fitted u v (texts_of b))

  abbrev from_read : Read (List Program) → Read (List Move) → Result Texts
  from_read programs moves = fit (batch_from at_start programs moves)

  pub at_1 : (e : BadLine) → p ≡ Err e → record_of s schedule u v ≡ fault 1 e.line
  unfolding record_of batch_recorded read_in
  at_1 e d =
      let z = ap (λ p. read_in p (table_in ps)) (sym d) ∙ h.read in
      sym (ap (λ p. from_read p (read_schedule schedule)) z)

  module _ (o : Unit {0}) (ok : p ≡ Ok o) where
    abbrev table : List Program
    table = table_in ps

    pub programs-known : Known ps
    programs-known = record { room = h.room; few = h.few; bounded = h.bounded }

    programs-read : from_read (readable table) (read_schedule schedule) ≡ record_of s schedule u v
    unfolding record_of batch_recorded read_in
    programs-read = ap (λ p. from_read p (read_schedule schedule)) (ap (λ p. read_in p (table_in ps)) (sym ok) ∙ h.read)

    module _ (r : Answer Unit BadLine) (e : broken_line r ≡ row2 (firsts (program_at ps.table) (min ps.n 16))) where
      rules : broken_line r ≡ row2 table
      rules =
          let z : min ps.n 16 ≡ ps.n = omega (arith, h.few) in
          e ∙ ap (λ n. row2 (firsts (program_at ps.table) n)) z

      pub at-2 : (b : BadLine) → r ≡ Err b → record_of s schedule u v ≡ fault 2 b.line
      at-2 b d = sym (ap fit (holds fault 2 (row2 table) _ b.line (sym rules ∙ ap broken_line d)) ∙ programs-read)

      module _ (k : Unit {0}) (kept : r ≡ Ok k) (moves : Schedule) (l : Answer Unit BadLine)
          (g : read_in l (moves_in moves) ≡ read_schedule schedule) where
        -- rows 1 and 2 do not hold
        past-2 : (m : Read (List Move)) → m ≡ read_schedule schedule →
            fit (fault_or fault 13 (bad_line m) (run_of at_start table (contents [] m))) ≡ record_of s schedule u v
        past-2 m e =
            ap fit (passes fault 2 (row2 table) (fault_or fault 13 (bad_line m) (run_of at_start table (contents [] m)))
            (sym rules ∙ ap broken_line kept))
            ∙ ap (from_read (readable table)) e
            ∙ programs-read

        pub at-13 : (b : BadLine) → l ≡ Err b → record_of s schedule u v ≡ fault 13 b.line
        unfolding read_in
        at-13 b d = sym (past-2 (unreadable b.line) (ap (λ l. read_in l (moves_in moves)) (sym d) ∙ g))

        module _ (n : Unit {0}) (d : l ≡ Ok n) where
          moves_read : read_schedule schedule ≡ readable (moves_in moves)
          unfolding read_in
          moves_read = sym g ∙ ap (λ l. read_in l (moves_in moves)) d

          pub past-13 : record_of s schedule u v ≡ recorded_moves at_start (full_table ps) (moves_in moves) u v
          past-13 =
              sym (past-2 (readable (moves_in moves)) (sym moves_read)) ∙ recorded-same ps programs-known at_start (moves_in moves) u v

          pub scheduled : Scheduled (moves_in moves)
          scheduled =
              let w = schedule-in schedule (moves_in moves) moves_read in
              record { rids = rids-in (moves_in moves) w.moves; arrivals_few = w.few }

-- ── rows 14 and 16 ──
pub ready : (ps : Programs) (moves : Schedule) → Known ps → Scheduled (moves_in moves) → (before : Run) → before ≡ blank → Ready ps moves before
ready ps moves k s before b =
    subst (Ready ps moves) (sym b)
    (record {
      programs_known = k;
      scheduled = s;
      nothing = refl;
      opening = at_start;
      held = no-objects-start;
      few_cells = omega arith;
    })

module _ (ps : Programs) (moves : Schedule) (u v : ℕ) (before after : Run) (b : before ≡ blank) (q : Answer Unit BadLine)
    (f : RunsFrom ps moves before after q) where
  abbrev t : List Program
  t = full_table ps

  ran-is : RunIs at_start t (moves_in moves) after q
  ran-is = f at_start (subst (λ x. ObjectsHeld x.objects at_start) (sym b) no-objects-start)

  -- what is made of a run
  abbrev written : Result (Host (M t)) → Result Texts
  written z = and_then (and_then z (λ h. made (batch_written (M t) 16 h))) (λ b. fitted u v (texts_of b))

  pub at-14 : (e : BadLine) → q ≡ Err e → recorded_moves at_start t (moves_in moves) u v ≡ fault 14 e.line
  unfolding RunIs
  at-14 e d =
      let w : ran at_start t (moves_in moves) ≡ fault 14 e.line = subst (RunIs at_start t (moves_in moves) after) d ran-is in
      ap written w

  pub past-14 : (k : Unit {0}) → q ≡ Ok k → recorded_moves at_start t (moves_in moves) u v ≡ fitted u v (texts_of (batch_kept after))
  unfolding RunIs
  past-14 k d =
      let w : Finished at_start t (moves_in moves) after = subst (RunIs at_start t (moves_in moves) after) d ran-is in
      ap written w.made_it ∙ ap (fitted u v) (sym (texts-are t after w.host w.requests w.events_held w.lines))
