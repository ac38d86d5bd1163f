-- `widths` meets its contract.
use Rattle.std.proofs.Common.{◌+◌, ◌*◌, length, drop, ap, ◌∙◌, arith, length-append, mul-suc, add-one, rules}
use Rattle.text.specs.Written.{lines_text}
use Rattle.writing.proofs.LineLists.{lines-next, lines-done}
use Rattle.writing.proofs.records.widths.Goals as goal

pub loop-x-preserved : goal.loop-x-preserved
loop-x-preserved g c =
    let l = c.loop-x in
    let f = g.L.Line.text in
    let xs = c.args.records.now in
    let e = ap length (lines-next f xs l.x-index c.x-item.result (search rules) c.x-item.is) ∙ length-append (f c.x-item.result) (lines_text f (drop (l.x-index + 1) xs)) in
    let m = ap (λ j. g.L.Line.most * j) (add-one l.x-index) ∙ mul-suc g.L.Line.most l.x-index in
    let w = c.width-at.ensures in
    (omega (arith, e, w.value), omega (arith, m, w.upper_bound))

pub returns-clause-value : goal.returns-clause-value
returns-clause-value g c =
    let l = c.loop-x in omega (arith, ap length (lines-done g.L.Line.text c.args.records.now l.x-index (search rules)))
