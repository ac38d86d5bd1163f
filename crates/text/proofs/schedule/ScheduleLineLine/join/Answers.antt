-- A line joins.
use Rattle.std.proofs.Common.{◌∙◌, refl}
use Rattle.text.proofs.Joins.{joins, pushed}
use Rattle.text.proofs.ScheduleReading.{lines-room, turn-joins}
use Rattle.text.specs.declared.schedule.Schedule.{Schedule}
use Rattle.text.proofs.schedule.ScheduleLineLine.join.Goals as goal

pub returns-in-Arrive : goal.returns-in-Arrive
returns-in-Arrive c = λ at end h more short. rw c.in-Arrive.is (c.add_arrival.ensures at end h more short)

pub returns-in-Turn : goal.returns-in-Turn
returns-in-Turn c = λ at end h more short.
    let t = c.try_push.ensures in
    let l = pushed _ _ _ _ _ t.variant t.ok (lines-room c.args.schedule.now at end h more short) in
    let y : Schedule = record { lines = c.try_push.new.self; arrivals = c.args.schedule.now.arrivals } in
    let j = turn-joins c.args.schedule.now y at end h more short c.in-Turn.rid l.1 refl in
    rw c.in-Turn.is (joins _ _ (c.is_ok.ensures.value ∙ l.0) j.0 j.1)
