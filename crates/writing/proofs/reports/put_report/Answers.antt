-- `put_report` meets its contract: its `of` lines, and behind them its `log` lines.
use Rattle.std.proofs.Common.{◌≡◌, ◌≤◌, ◌++◌, List, length, ap, ◌∙◌, refl, sym, arith}
use Rattle.lines.proofs.Puts.{put-short, put-fits}
use Rattle.lines.proofs.Writing.{first-room, second-room, second-within, both-written, both-within}
use Rattle.text.specs.Held.{report_of}
use Rattle.text.specs.Written.{lines_text, of_text, entry_text, report_text}
use Rattle.text.specs.declared.report.Of.{Of}
use Rattle.text.specs.declared.report.Entry.{Entry}
use Rattle.writing.proofs.reports.put_report.Goals as goal

pub returns-then-out-report_width : goal.returns-then-out-report_width
returns-then-out-report_width c = put-short _ _ (omega (arith, c.report_width.ensures))

-- the text of the slices
two : (ofs ofs' : List Of) (log log' : List Entry) → ofs' ≡ ofs → log' ≡ log →
    report_text (report_of ofs log) ≡ lines_text of_text ofs' ++ lines_text entry_text log'
unfolding report_text
two ofs ofs' log log' e f = sym (ap (λ x. lines_text of_text x ++ lines_text entry_text log') e ∙ ap (λ y. lines_text of_text ofs ++ lines_text entry_text y) f)

pub fill-at-requires : goal.fill-at-requires
fill-at-requires c =
    let log = c.args.log.now.items in
    first-room _ (lines_text entry_text log) _ _ (two _ _ log log c.as_slice.ensures.value refl) (omega (arith, c.report_width.ensures))

pub slice_bounds-fill-count : goal.slice_bounds-fill-count
slice_bounds-fill-count c =
    let log = c.args.log.now.items in
    let f = c.fill-at.ensures in
    second-within _ (lines_text entry_text log) _ _ (two _ _ log log c.as_slice.ensures.value refl) (omega (arith, c.report_width.ensures))
    _ _ f.value f.out_after

pub slice_bounds-fill-start : goal.slice_bounds-fill-start
slice_bounds-fill-start c =
    let log = c.args.log.now.items in
    let f = c.fill-at.ensures in
    second-within _ (lines_text entry_text log) _ _ (two _ _ log log c.as_slice.ensures.value refl) (omega (arith, c.report_width.ensures))
    _ _ f.value f.out_after

pub fill-requires : goal.fill-requires
fill-requires c =
    let f = c.fill-at.ensures in
    second-room _ _ _ _ (two _ _ _ _ c.as_slice.ensures.value c.as_slice-2.ensures.value) (omega (arith, c.report_width.ensures))
    _ _ f.value f.out_after

pub overflow_add-result : goal.overflow_add-result
overflow_add-result c =
    let f = c.fill-at.ensures in
    let g = c.fill.ensures in
    let w = both-within _ _ _ _ (two _ _ _ _ c.as_slice.ensures.value c.as_slice-2.ensures.value) (omega (arith, c.report_width.ensures))
    _ _ f.value f.out_after _ _ g.value g.out_after in
    omega arith

pub returns : goal.returns
returns c =
    let f = c.fill-at.ensures in
    let g = c.fill.ensures in
    let room : length (report_text (report_of c.args.ofs.now.items c.args.log.now.items)) ≤ length c.args.out.now =
    omega (arith, c.report_width.ensures) in
    let d = both-written _ _ _ _ (two _ _ _ _ c.as_slice.ensures.value c.as_slice-2.ensures.value) room
    _ _ f.value f.out_after _ _ g.value g.out_after in
    put-fits _ _ _ _ room d.0 d.1
