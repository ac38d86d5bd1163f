-- A line is what is kept for it.
use Rattle.std.proofs.Common.{◌≡◌, Some, None, slice_get, sym, ap, ◌∙◌}
use Rattle.text.proofs.ScheduleReading.{move-kept}
use Rattle.text.specs.declared.schedule.Kept.TheVariants.{Turn as TurnOf, Arrival as ArrivalAt}
use Rattle.text.proofs.schedule.Schedule.move_at.Goals as goal

pub returns-in-Some-Turn-clause-line : goal.returns-in-Some-Turn-clause-line
returns-in-Some-Turn-clause-line c =
    let k = c.in-Some-Turn in
    let e : Some (TurnOf k.rid) ≡ slice_get c.args.self.now.lines.items c.args.i = sym (k.is ∙ ap Some k.field-0-is) ∙ c.line.ensures in
    rw c.from.ensures (sym (move-kept c.args.self.now c.args.i (Some (TurnOf k.rid)) e))

pub returns-in-Some-Arrival-clause-line : goal.returns-in-Some-Arrival-clause-line
returns-in-Some-Arrival-clause-line c =
    let k = c.in-Some-Arrival in
    let e : Some (ArrivalAt k.place) ≡ slice_get c.args.self.now.lines.items c.args.i = sym (k.is ∙ ap Some k.field-0-is) ∙ c.line.ensures in
    rw (c.arrival.ensures, c.from-in-Some-Arrival.ensures) (sym (move-kept c.args.self.now c.args.i (Some (ArrivalAt k.place)) e))

pub returns-in-None-clause-line : goal.returns-in-None-clause-line
returns-in-None-clause-line c =
    sym (move-kept c.args.self.now c.args.i None (sym c.in-None.is ∙ c.line.ensures))
