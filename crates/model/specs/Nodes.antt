-- The items of a batch as the ordering takes them: each stands in a lane (0 the trace, 1 + o the log of object o), and has a number in its
-- request.
use Rattle.std.specs.Prelude.{List, ◌++◌, map, ℕ, suc, length}
use Rattle.text.specs.declared.trace.Event.TheVariants.{Request, Response}
use Rattle.ordering.specs.Merge.{merge}
use Rattle.model.specs.Batch.{Batch, count_of, Node, ev, ln}

abbrev pub lane : Node → ℕ
lane (ev e) = 0
lane (ln l) = suc l.op.object

abbrev pub rid : Node → ℕ
rid (ev (Request r prog a b)) = r
rid (ev (Response r status value)) = r
rid (ln l) = l.rid

-- the request has the number 0, its operations 1 to count, its response count + 1
abbrev pub num : (ℕ → ℕ) → Node → ℕ
num count (ev (Request r prog a b)) = 0
num count (ev (Response r status value)) = suc (count r)
num count (ln l) = l.num

-- log lines in report order before trace events
abbrev pub nodes : Batch → List Node
nodes b = map ln b.log ++ map ev b.trace

-- the order that the merge makes of them, and what it leaves over
abbrev pub merge_of : Batch → List Node × List Node
merge_of b = merge lane rid (num (count_of b.ofs)) (length (nodes b)) (λ r. 0) (nodes b)
