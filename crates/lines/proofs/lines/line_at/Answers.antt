-- `line_at` meets its contract.
use Rattle.std.proofs.Common.{ap, ◌∙◌, arith}
use Rattle.lines.specs.Place.{found_in}
use Rattle.lines.proofs.LinePlaces.{line-out, line_other, line-here, word_test}
use Rattle.lines.proofs.lines.line_at.Goals as goal

pub returns-in_err-get : goal.returns-in_err-get
unfolding found_in
returns-in_err-get g c =
    let h = c.in_err-get.ensures.lookup.0 in
    ap found_in c.from_residual.ensures ∙ line-out c.args.word.now c.args.most.now c.args.s.now c.args.at (omega arith)

pub returns-then-not-starts_with : goal.returns-then-not-starts_with
unfolding found_in
returns-then-not-starts_with g c =
    let p = c.in_ok-get.ensures.lookup.0 in
    line_other _ _ c.args.s.now _ (word_test _ c.args.s.now _ _ _ _ p.2 c.starts_with.ensures.value c.if-not-starts_with.true)

pub returns : goal.returns
returns g c =
    let p = c.in_ok-get.ensures.lookup.0 in
    let w = c.args.word.now in
    c.fields_at.ensures ∙ line-here w c.args.most.now c.args.s.now c.args.at (word_test w c.args.s.now _ _ _ _ p.2 c.starts_with.ensures.value c.if-not-starts_with.false)
