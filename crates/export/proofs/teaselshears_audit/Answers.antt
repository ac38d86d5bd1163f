-- `teaselshears_audit` meets its contract: the numbers of the audit in front of out, or nothing.
use Rattle.std.proofs.Common.{◌≡◌, ◌↔◌, ℕ, List, get_or, sym, ap, ◌∙◌, subst}
use Rattle.lines.specs.Put.{front}
use Rattle.verifier.specs.declared.Audited.{Audited}
use Rattle.export.specs.Numbers.{audit_numbers}
use Rattle.export.proofs.Rooms.{no_room, room, handed-in}
use Rattle.export.proofs.teaselshears_audit.Goals as goal

-- what holds exactly where a result's verdict is 0 holds exactly where the first number of out is
first-exactly : {P : Type 0} (a : Audited) (s u : List ℕ) → u ≡ front (audit_numbers a) s → ((a.verdict ≡ 0) ↔ P) → (get_or u 0 0 ≡ 0) ↔ P
unfolding front
first-exactly {P} a s u e h = subst (λ u. (get_or u 0 0 ≡ 0) ↔ P) (sym e) h

pub returns-then-out-lt6-clause-count : goal.returns-then-out-lt6-clause-count
returns-then-out-lt6-clause-count c = no_room 6 _ _ _ c.if-out-lt6.true

pub returns-then-out-lt6-clause-numbers : goal.returns-then-out-lt6-clause-numbers
returns-then-out-lt6-clause-numbers c = no_room 6 _ _ _ c.if-out-lt6.true

pub returns-clause-count : goal.returns-clause-count
returns-clause-count c = room 6 _ _ _ c.if-out-lt6.false

pub returns-clause-numbers : goal.returns-clause-numbers
returns-clause-numbers c =
    handed-in _ _ _ _ (c.numbers_of.ensures ∙ ap audit_numbers c.audit.ensures.meaning) c.fill.ensures c.if-out-lt6.false

pub returns-clause-exactly : goal.returns-clause-exactly
returns-clause-exactly c = λ e.
    first-exactly _ _ _ (c.fill.ensures ∙ ap (λ v. front v c.args.out.now) c.numbers_of.ensures) c.audit.ensures.exactly
