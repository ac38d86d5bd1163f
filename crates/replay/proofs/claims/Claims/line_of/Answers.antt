-- `line_of` meets its contract.
use Rattle.std.proofs.Common.{◌≡◌, ◌<◌, ◌≤◌, length, get_or, ap, ◌∙◌}
use Rattle.basics.proofs.Tests.{eqb_yes}
use Rattle.text.specs.declared.report.Entry.{Entry}
use Rattle.replay.specs.Held.{no_entry}
use Rattle.replay.proofs.Links.{walk-hit, walk_end}
use Rattle.replay.proofs.claims.Claims.line_of.Goals as goal

pub returns-then-entry-num-clause-line : goal.returns-then-entry-num-clause-line
returns-then-entry-num-clause-line c =
    let log : c.deref.result.now ≡ c.args.self.now.log = c.deref.ensures.0 ∙ ap (λ v. v.log) c.self.view_is in
    let h : (c.loop-entry.j < length c.deref.result.now) × ((d : Entry) → c.in-Some.entry.now ≡ get_or c.deref.result.now c.loop-entry.j d) =
    c.in-Some.ensures.lookup.3 in
    let g = rw log at h in
    walk-hit _ _ _ _ c.loop-entry.invariant g.0 (rw (← g.1 no_entry, eqb_yes c.if-entry-rid.true, eqb_yes c.if-entry-num.true))

pub returns-clause-line : goal.returns-clause-line
returns-clause-line c =
    let log : c.deref.result.now ≡ c.args.self.now.log = c.deref.ensures.0 ∙ ap (λ v. v.log) c.self.view_is in
    let h : length c.deref.result.now ≤ c.loop-entry.j = c.in_default.ensures.lookup.3 in
    walk_end _ _ _ _ c.loop-entry.invariant (rw log at h)
