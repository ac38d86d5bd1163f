-- "Comes before" among the events and log lines of a batch, by the five rules of the paper. The rule T for the trace is a parameter.
use mathlib.Core.List.{List, Memᴰ}
use Rattle.std.specs.Prelude.{◌≡◌, ℕ, suc}
use Rattle.basics.specs.Lists.{Neighbours, Later}
use Rattle.basics.specs.Chain.{Chain, Cycle}
use Rattle.text.specs.declared.report.Entry.{Entry}
use Rattle.text.specs.declared.trace.Event.TheVariants.{Request, Response}
use Rattle.text.specs.declared.trace.Event.{Event}
use Rattle.model.specs.Batch.{Batch, Node, ev, ln, log_of, count_of}

pub data Precedes (T : List Event → Event → Event → Type 0) (b : Batch) : Node → Node → Type 0 where
  -- each trace event and the next, where T is `Neighbours`
  events : {e f : Event} → T b.trace e f → Precedes T b (ev e) (ev f)
  -- a request and its operation 1
  first : {r prog x y : ℕ} {l : Entry} → Memᴰ (Request r prog x y) b.trace → Memᴰ l b.log → l.rid ≡ r → l.num ≡ 1 →
      Precedes T b (ev (Request r prog x y)) (ln l)
  -- operation k and k + 1
  then : {l m : Entry} → Memᴰ l b.log → Memᴰ m b.log → l.rid ≡ m.rid → suc l.num ≡ m.num →
      Precedes T b (ln l) (ln m)
  -- the last operation and the response
  last : {r s v : ℕ} {l : Entry} → Memᴰ l b.log → Memᴰ (Response r s v) b.trace → l.rid ≡ r →
      l.num ≡ count_of b.ofs r → Precedes T b (ln l) (ev (Response r s v))
  -- neighbours in one object's log
  logged : {l m : Entry} (o : ℕ) → Neighbours (log_of o b.log) l m → Precedes T b (ln l) (ln m)

-- a chain of "comes before", and one that returns to its start
abbrev pub Leads : Batch → Node → Node → Type 0
Leads b = Chain (Precedes Neighbours b)

abbrev pub Returns : Batch → Type 0
Returns b = Cycle (Precedes Neighbours b)

-- the weaker rule for the trace, of source document 001: a response and each later request
pub data LaterRequest (trace : List Event) : Event → Event → Type 0 where
  later_request : {r s v q prog x y : ℕ} → Later trace (Response r s v) (Request q prog x y) →
      LaterRequest trace (Response r s v) (Request q prog x y)

-- a chain by the weaker rule that returns to its start
abbrev pub ReturnsWeakly : Batch → Type 0
ReturnsWeakly b = Cycle (Precedes LaterRequest b)
