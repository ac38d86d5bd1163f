-- A batch: the trace and the report as they were read, and what is looked up in them.
use Rattle.std.specs.Prelude.{Bool, false, cond, ◌&&◌, ◌||◌, List, [], ◌∷◌, ℕ, eqb}
use Rattle.text.specs.Report.{Report}
use Rattle.text.specs.declared.report.Entry.{Entry}
use Rattle.text.specs.declared.report.Of.{Of}
use Rattle.text.specs.declared.trace.Event.TheVariants.{Request, Response}
use Rattle.text.specs.declared.trace.Event.{Event}

pub record Batch : Type 0 where
  pub trace : List Event
  pub ofs : List Of
  pub log : List Entry

abbrev pub batch_of : List Event → Report → Batch
batch_of trace report = record { trace = trace; ofs = report.ofs; log = report.log }

-- an item of a batch: a trace event, or a log line
pub data Node : Type 0 where
  ev : Event → Node
  ln : Entry → Node

-- the log of one object: its lines, read downward
abbrev pub log_of : ℕ → List Entry → List Entry
log_of o [] = []
log_of o (l ∷ ls) = cond (eqb l.op.object o) (l ∷ log_of o ls) (log_of o ls)

-- whether there is a `request` line of a rid
abbrev pub requested : ℕ → List Event → Bool
requested r [] = false
requested r (Request q prog a b ∷ es) = eqb q r || requested r es
requested r (Response q status value ∷ es) = requested r es

-- whether there is a `response` line of a rid
abbrev pub answered : ℕ → List Event → Bool
answered r [] = false
answered r (Request q prog a b ∷ es) = answered r es
answered r (Response q status value ∷ es) = eqb q r || answered r es

-- whether there is an `of` line of a rid
abbrev pub named : List Of → ℕ → Bool
named [] r = false
named (x ∷ xs) r = eqb x.rid r || named xs r

-- how many operations the `of` line of a rid counts
abbrev pub count_of : List Of → ℕ → ℕ
count_of [] r = 0
count_of (x ∷ xs) r = cond (eqb x.rid r) x.count (count_of xs r)

-- the first request of a group
abbrev pub first_of : List Of → ℕ → ℕ
first_of [] g = 0
first_of (x ∷ xs) g = cond (eqb x.group g) x.rid (first_of xs g)

-- whether a log line claims operation k of request r, and whether one of several does
abbrev pub claims : ℕ → ℕ → Entry → Bool
claims r k l = eqb l.rid r && eqb l.num k

abbrev pub claimed : List Entry → ℕ → ℕ → Bool
claimed [] r k = false
claimed (l ∷ ls) r k = claims r k l || claimed ls r k
