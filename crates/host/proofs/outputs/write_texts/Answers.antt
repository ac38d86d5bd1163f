-- Row 16, or both texts.
use Rattle.std.proofs.Common.{arith}
use Rattle.host.specs.Recorded.{texts_of}
use Rattle.host.specs.Steps.{batch_in}
use Rattle.host.proofs.Fitting.{short-trace, short-report, both-fit}
use Rattle.host.proofs.outputs.write_texts.Goals as goal

pub returns-then-trace-trace_width : goal.returns-then-trace-trace_width
returns-then-trace-trace_width c =
    let a = c.args in
    short-trace (texts_of (batch_in a.events.now a.ofs.now a.log.now)) a.trace.now a.report.now (omega (arith, c.trace_width.ensures))

pub returns-then-report-report_width : goal.returns-then-report-report_width
returns-then-report-report_width c =
    let a = c.args in
    short-report (texts_of (batch_in a.events.now a.ofs.now a.log.now)) a.trace.now a.report.now (omega (arith, c.report_width.ensures))

pub returns : goal.returns
returns c =
    let a = c.args in
    both-fit (texts_of (batch_in a.events.now a.ofs.now a.log.now)) a.trace.now a.report.now
    (omega (arith, c.trace_width.ensures)) (omega (arith, c.report_width.ensures)) _ _ _ _
    c.put_trace-t.ensures c.put_report-r.ensures _ _ c.unwrap_or.ensures c.unwrap_or-2.ensures
