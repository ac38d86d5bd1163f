-- `passed` meets its contract.
use Rattle.std.proofs.Common.{◌-◌, ◌<◌, ◌==◌, length, take, drop, sym, ap, ◌∙◌, arith, length-drop}
use Rattle.std.proofs.lemmas.List.{take_all}
use Rattle.std.specs.List.{list_any}
use Rattle.rows.proofs.ReportScans.{none_more, none_all}
use Rattle.rows.proofs.reports.passed.Goals as goal

pub loop-block-preserved : goal.loop-block-preserved
loop-block-preserved c =
    let s = c.loop-block.invariant in
    let f = c.in-Some.ensures.cases in
    let xs = c.args.column.now in
    let j = c.loop-block.j in
    let w = take_all (length xs - j) (drop j xs) (omega (arith, length-drop j xs)) in
    record {
      within = omega (arith, f.enough, ap length w, length-drop j xs);
      none = none_more _ xs j 16 s.none (ap (list_any (λ x. x == c.args.p)) (sym (f.same ∙ ap (take 16) w)) ∙ sym c.among.ensures ∙ c.if-among.false);
    }

pub returns-in-Some-last_chunk-clause-other : goal.returns-in-Some-last_chunk-clause-other
returns-in-Some-last_chunk-clause-other c =
    let xs = c.args.column.now in
    let j = c.loop-block.j in
    let w = take_all (length xs - j) (drop j xs) (omega (arith, length-drop j xs)) in
    let g = c.in-Some-last_chunk.ensures.cases in
    let few : length (take (length xs - j) (drop j xs)) < 16 = c.in_default.ensures.cases in
    ap (list_any (λ x. x == c.args.p)) (take_all (length xs) xs (omega arith))
    ∙ none_all _ xs j (length xs - 16) (omega (arith, few, g.0, ap length w, length-drop j xs)) c.loop-block.invariant.none
    (ap (list_any (λ x. x == c.args.p)) (sym g.1.same) ∙ sym c.if-not-among.ensures)
