-- The fronts of the two buffers are the texts, and what is printed has room.
use Rattle.std.proofs.Common.{ℕ, sym, rules}
use lib.ListN.{length-replicate}
use lib.Seq.{length-take-le}
use Rattle.host.proofs.Fronts.{trace-room, report-room}
use Rattle.host.proofs.PrintedTexts.{printed-put, printed-most}
use Rattle.host.proofs.printing.record_text.Goals as goal

pub slice_bounds-trace-end : goal.slice_bounds-trace-end
slice_bounds-trace-end c = trace-room c.record-r.ensures.meaning

pub slice_bounds-put_recorded-end : goal.slice_bounds-put_recorded-end
slice_bounds-put_recorded-end c = sym (length-take-le _ _ (trace-room c.record-r.ensures.meaning))

pub slice_bounds-report-end : goal.slice_bounds-report-end
slice_bounds-report-end c = report-room c.record-r.ensures.meaning

pub slice_bounds-put_recorded-end-2 : goal.slice_bounds-put_recorded-end-2
slice_bounds-put_recorded-end-2 c = sym (length-take-le _ _ (report-room c.record-r.ensures.meaning))

pub returns-clause-printed : goal.returns-clause-printed
returns-clause-printed c =
    let size = length-replicate {A = ℕ} 65535 0 in printed-put _ _ _ _ _ _ _ size size c.record-r.ensures.meaning _ _ _ c.put_recorded.ensures

pub returns-clause-most : goal.returns-clause-most
returns-clause-most c =
    let size = length-replicate {A = ℕ} 65535 0 in printed-most _ _ _ _ _ _ _ size size c.record-r.ensures.meaning (search rules) (search rules)
