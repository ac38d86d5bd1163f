-- Laws of the program table, where blank instructions stand behind each program's own: a schedule runs by it as by the programs that were read.
use Rattle.std.proofs.Common.{◌≡◌, ℕ, ◌<◌, true, ltb, List, length, sym, ap, ◌∙◌, arith, length-take-le, get_or-take, ltb-true}
use Rattle.basics.proofs.Firsts.{firsts-length}
use Rattle.text.specs.Formats.{most_entries}
use Rattle.text.specs.Held.{table_in}
use Rattle.text.specs.Programs.{no_program, known}
use Rattle.text.specs.declared.programs.Program.{Program}
use Rattle.text.specs.declared.programs.Programs.{Programs}
use Rattle.text.specs.declared.schedule.Move.{Move}
use Rattle.model.specs.Host.{recorded, and_then}
use Rattle.machine.specs.Instance.{code_at, gone, machine_of}
use Rattle.machine.specs.Objects.{Content}
use Rattle.machine.specs.Processes.{limit, instr_at}
use Rattle.machine.proofs.SameHosts as both
use Rattle.machine.proofs.Tables.{same_code, Same, tables_agree}
use Rattle.host.specs.Recorded.{texts_of, fitted}
use Rattle.host.specs.Runs.{Known, full_table, recorded_moves}

module _ (programs : Programs) (k : Known programs) where
  abbrev t : List Program
  t = full_table programs

  abbrev u : List Program
  u = table_in programs

  pub full-length : length t ≡ programs.n
  full-length = length-take-le programs.n programs.table (omega (arith, k.few, k.room))

  pub full-code : (prog : ℕ) → prog < length t → code_at t prog ≡ code_at programs.table prog
  full-code prog h = ap (λ p. p.code) (get_or-take programs.n programs.table prog no_program (omega (arith, h, full-length)))

  same : (prog : ℕ) → known t prog ≡ true → Same limit t u prog
  same prog b at =
      let h : prog < programs.n = omega (arith, ltb-true prog (length t) b, full-length) in
      ap (λ code. instr_at code at) (full-code prog (omega (arith, h, full-length)))
      ∙ same_code programs.table programs.n prog h (k.bounded prog h) at

  -- the run of a schedule, and what is written of it
  pub recorded-same : (opening : ℕ → Content) (ms : List Move) (m n : ℕ) →
      recorded_moves opening u ms m n ≡ recorded_moves opening t ms m n
  recorded-same opening ms m n =
      let a = tables_agree limit t u (known t) same in
      let e : length t ≡ length u = full-length ∙ sym (firsts-length _ programs.n) in
      let r = both.recorded-same (gone limit t) (gone limit u) (known t) a most_entries 16 ms opening
      ∙ ap (λ k. recorded (machine_of u) (λ prog. ltb prog k) most_entries 16 opening ms) e in
      sym (ap (λ x. and_then x (λ b. fitted m n (texts_of b))) r)
