-- The replay of one request against the log lines that claim its operations.
use Rattle.std.specs.Prelude.{Bool, cond, ◌&&◌, List, [], ◌∷◌, ℕ, zero, suc, eqb}
use Rattle.std.proofs.Math.Option.{Option, none, some}
use Rattle.text.specs.declared.report.Entry.{Entry}
use Rattle.text.specs.declared.report.Op.{Op}
use Rattle.text.specs.declared.trace.Event.TheVariants.{Request, Response}
use Rattle.text.specs.declared.trace.Event.{Event}
use Rattle.model.specs.Batch.{Batch, claims, count_of}
use Rattle.model.specs.Machine.{Next, op, stop, Machine, shown, applied}

-- equal in object, kind, key and value
abbrev pub same_op : Op → Op → Bool
same_op a b =
    eqb a.object b.object && (eqb a.kind b.kind && (eqb a.key b.key && eqb a.value b.value))

-- what the trace has for a request: its response, or none
pub data Reply : Type 0 where
  silent : Reply
  said : (status value : ℕ) → Reply

abbrev pub response_of : List Event → ℕ → Reply
response_of [] r = silent
response_of (Request q prog a b ∷ es) r = response_of es r
response_of (Response q status value ∷ es) r = cond (eqb q r) (said status value) (response_of es r)

-- how a replay comes out: not as the report has it, or with a reply (none where the request was left open) and a path
pub data Outcome : Type 0 where
  differs : Outcome
  ended : Reply → (path : List ℕ) → Outcome

-- an operation's answer, if the line that claims it is its own
pub data Answer : Type 0 where
  wrong : Answer
  right : ℕ → Answer

module _ (M : Machine) where
  open M use {Process, Content, start, advance, resume, path_so_far, path_at_end, apply}

  -- the line that claims an operation, and what its object held just before it: what the earlier lines of that object's log leave
  pub data Claim : Type 0 where
    unclaimed : Claim
    by : Entry → Content → Claim

  abbrev pub claim : List Entry → (ℕ → Content) → (rid num : ℕ) → Claim
  claim [] c r k = unclaimed
  claim (l ∷ ls) c r k = cond (claims r k l) (by l (c l.op.object)) (claim ls (applied M c l.op) r k)

  -- operation k must equal the line that claims it
  abbrev pub compare : Op → Claim → Answer
  compare o unclaimed = wrong
  compare o (by l c) = cond (same_op l.op (shown M o (apply o c).0)) (right (apply o c).0) wrong

  -- the end of a request that has done all the operations that its count allows; one left open stops right behind them
  abbrev pub finish : Reply → Process → Next → Outcome
  finish silent p x = ended silent (path_so_far p)
  finish (said s v) p (op o) = differs
  finish (said s v) p (stop s' v') = ended (said s' v') (path_at_end p)

  -- the process p, which is about to do `x`, has n operations left to do, and the next has the number k
  abbrev pub replay : (ℕ → Claim) → Reply → (n k : ℕ) → Process → Next → Outcome
  replay f a zero k p x = finish a p x
  replay f a (suc n) k p (op o) = elim (compare o (f k)) [
    | wrong ↦ differs
    | right v ↦ replay f a n (suc k) (resume p v) (advance (resume p v))
  ]
  replay f a (suc n) k p (stop s v) = differs

  -- a request of the trace, as it arrives
  abbrev pub request_of : List Event → ℕ → Option Process
  request_of [] r = none
  request_of (Request q prog a b ∷ es) r = cond (eqb q r) (some (start prog a b)) (request_of es r)
  request_of (Response q status value ∷ es) r = request_of es r

  module _ (opening : ℕ → Content) (b : Batch) where
    abbrev pub replay_from : ℕ → Option Process → Outcome
    replay_from r none = differs
    replay_from r (some p) = replay (claim b.log opening r) (response_of b.trace r) (count_of b.ofs r) 1 p (advance p)

    abbrev pub outcome : ℕ → Outcome
    outcome r = replay_from r (request_of b.trace r)
