-- An arrival joins where there is room for it, and there is room for its line.
use Rattle.std.proofs.Common.{sym, ◌∙◌}
use Rattle.text.proofs.Joins.{joins, stays, pushed, unpushed}
use Rattle.text.proofs.ScheduleReading.{lines-room, arrive-full, arrive-joins}
use Rattle.text.specs.declared.schedule.Schedule.{Schedule}
use Rattle.text.proofs.schedule.Schedule.add_arrival.Goals as goal

pub returns-then-is_ok : goal.returns-then-is_ok
returns-then-is_ok c = λ at end h more short.
    let t = c.try_push.ensures in
    let u = c.try_push-then-is_ok.ensures in
    let few = t.variant.0 (sym c.is_ok.ensures.value ∙ c.if-is_ok.true) in
    let a = pushed _ _ _ _ _ t.variant t.ok few in
    let l = pushed _ _ _ _ _ u.variant u.ok (lines-room _ at end h more short) in
    let y : Schedule = record { lines = c.try_push-then-is_ok.new.self; arrivals = c.try_push.new.self } in
    let j = arrive-joins _ y at end h more short c.args.x few (rw (← c.len-place.ensures.value) l.1) a.1 in
    joins _ _ (c.is_ok-then-is_ok.ensures.value ∙ l.0) j.0 j.1

pub returns-else-is_ok : goal.returns-else-is_ok
returns-else-is_ok c = λ at end h more short.
    let t = c.try_push.ensures in
    stays _ _ _ c.if-is_ok.false
    (arrive-full c.args.self.now c.args.self.now at end h more short c.args.x
    (unpushed _ _ _ _ _ t.variant t.ok (sym c.is_ok.ensures.value ∙ c.if-is_ok.false)))
