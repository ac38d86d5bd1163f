-- What the host writes stays in range: the fields of each line, and the numbers of lines. That its texts can be read back rests on it.
use Rattle.std.specs.Prelude.{List, ◌≡◌, ℕ, ◌≤◌, ◌<◌, length}
use Rattle.basics.specs.Lists.{All}
use Rattle.basics.specs.Count.{count}
use Rattle.text.specs.declared.report.Entry.{Entry}
use Rattle.text.specs.declared.report.Of.{Of}
use Rattle.text.specs.declared.schedule.Move.TheVariants.{Arrive, Turn}
use Rattle.text.specs.declared.schedule.Move.{Move}
use Rattle.text.specs.declared.trace.Event.TheVariants.{Request, Response}
use Rattle.text.specs.declared.trace.Event.{Event}
use Rattle.text.specs.Trace.{is_request, is_response}
use Rattle.text.specs.Schedule.{is_arrive}
use Rattle.model.specs.Batch.{Batch}
use Rattle.model.specs.Bounds.{Bounded}
use Rattle.model.specs.Machine.{Machine}

-- R is the range of rids
module _ (M : Machine) (B : Bounded M) (R : ℕ → Type 0) where
  abbrev pub FitEvent : Event → Type 0
  FitEvent (Request r prog a b) = R r × B.FitInput prog a b
  FitEvent (Response r status value) = R r × B.FitReply status value

  abbrev pub FitEntry : Entry → Type 0
  FitEntry l = R l.rid × (l.num ≤ B.most) × B.FitOp l.op

  abbrev pub FitOf : (groups : ℕ) → Of → Type 0
  FitOf groups x = R x.rid × (x.group < groups) × (x.count ≤ B.most)

  abbrev pub FitMove : Move → Type 0
  FitMove (Arrive r prog a b) = R r × B.FitInput prog a b
  FitMove (Turn r) = Unit {0}

  -- a batch that was written for the schedule ms
  pub record FitBatch (most_operations : ℕ) (ms : List Move) (b : Batch) : Type 0 where
    pub events : All FitEvent b.trace
    pub ofs : All (FitOf (count is_request b.trace)) b.ofs
    pub lines : All FitEntry b.log
    pub requests : count is_request b.trace ≡ count is_arrive ms
    pub responses : count is_response b.trace ≤ count is_arrive ms
    pub operations : length b.log ≤ most_operations
