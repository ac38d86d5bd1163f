-- Two program tables in which the machine finds the same: the table in an array, with blank instructions behind each program's own, and the
-- programs as they were read; and by the same instructions a request goes on in the same way.
use Rattle.std.proofs.Common.{◌≡◌, ℕ, zero, suc, ◌+◌, ◌-◌, ◌%◌, ◌<◌, Bool, true, ltb, List, [], ◌∷◌, get_or, take, sym, refl, ap, ◌∙◌, arith, length-take, get_or-take, ltb-false, ltb-true}
use lib.ListN.{get_or-eq_default}
use Rattle.basics.specs.Firsts.{firsts}
use Rattle.basics.proofs.Firsts.{firsts_at}
use Rattle.basics.proofs.Tests.{by_bool}
use Rattle.text.specs.Held.{trimmed, program_at, Bounded}
use Rattle.text.specs.Programs.{no_instr, no_program}
use Rattle.text.specs.declared.programs.Instr.{Instr}
use Rattle.text.specs.declared.programs.Program.{Program}
use Rattle.machine.specs.declared.instructions.Act.{Act}
use Rattle.machine.specs.declared.instructions.Act.TheVariants.{Goes, Asks, Replies}
use Rattle.machine.specs.Instance.{Process, code_at, gone}
use Rattle.machine.specs.Instructions.{effect_of}
use Rattle.machine.specs.Processes.{Advanced, instr_at, behind, go}
use Rattle.machine.proofs.SameReplays.{Agree}
use Rattle.machine.proofs.Steps.{follow}

-- ── a table in an array, and as it was read ──
module _ (table : List Program) (n : ℕ) where
  abbrev read : List Program
  read = firsts (program_at table) n

  read_at : (k : ℕ) → k < n → get_or read k no_program ≡ trimmed (get_or table k no_program)
  unfolding program_at
  read_at k h = firsts_at (program_at table) n k no_program h

  pub same_code : (prog : ℕ) → prog < n → Bounded (get_or table prog no_program) → (at : ℕ) →
      instr_at (get_or table prog no_program).code at ≡ instr_at (get_or read prog no_program).code at
  same_code prog h b at =
      let p = get_or table prog no_program in
      let i = at % 64 in
      rw (read_at prog h)
      (by_bool (ltb i p.n)
      (λ t. sym (get_or-take p.n p.code i no_instr (ltb-true i p.n t)))
      (λ t.
      b.blank i (ltb-false i p.n t)
      ∙ sym (get_or-eq_default (take p.n p.code) no_instr {n = i} (omega (arith, ltb-false i p.n t, length-take p.n p.code)))))

-- ── a request goes on in the same way ──
follow-same : (x : Act) (l : List ℕ) (n done : ℕ) (f g : List ℕ → ℕ → Advanced) → ((m : List ℕ) (to : ℕ) → f m to ≡ g m to) →
    follow x l n done f ≡ follow x l n done g
follow-same (Goes to) l n done f g h = h l to
follow-same (Asks o into) l n done f g h = refl
follow-same (Replies v) l n done f g h = refl

go_same : (p q : List Instr) → ((at : ℕ) → instr_at p at ≡ instr_at q at) → (k : ℕ) (l : List ℕ) (at done : ℕ) →
    go k p l at done ≡ go k q l at done
unfolding go
go_same p q h zero l at done = refl
go_same p q h (suc k) l at done =
    let e = effect_of l (instr_at q at) (at % 64 + 1) in
    ap (λ i.
    let e = effect_of l i (at % 64 + 1) in
    behind (at % 64 ∷ []) (follow e.act e.locals (at % 64 + 1) (done + 1) (λ m to. go k p m to (done + 1)))) (h at)
    ∙ ap (behind (at % 64 ∷ []))
    (follow-same e.act e.locals (at % 64 + 1) (done + 1) _ _ (λ m to. go_same p q h k m to (done + 1)))

module _ (limit : ℕ) (t u : List Program) where
  -- program prog has the same instructions in both tables
  abbrev pub Same : ℕ → Type 0
  Same prog = (at : ℕ) → instr_at (code_at t prog) at ≡ instr_at (code_at u prog) at

  gone_same : (p : Process) → Same p.prog → gone limit t p ≡ gone limit u p
  gone_same p h = ap (behind p.path) (go_same _ _ h (limit - p.done) p.locals p.at p.done)

  -- where all known programs are the same, the machines of both agree
  pub tables_agree : (known : ℕ → Bool) → ((prog : ℕ) → known prog ≡ true → Same prog) → Agree (gone limit t) (gone limit u) known
  tables_agree known same =
      record { At = λ p. Same p.prog; same = gone_same; starts = λ prog a b. same prog; stays = λ p o v h e. h }
