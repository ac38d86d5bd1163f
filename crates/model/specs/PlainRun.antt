-- The plain run: the requests carried out in a given order, from the objects as they start. It sees nothing of the report.
use Rattle.std.specs.Prelude.{cond, ◌&&◌, List, [], ◌∷◌, ◌++◌, ℕ, suc, eqb}
use Rattle.std.proofs.Math.Option.{Option, none, some}
use Rattle.basics.specs.Maps.{upd}
use Rattle.text.specs.declared.report.Entry.{Entry}
use Rattle.text.specs.declared.report.Op.{Op}
use Rattle.text.specs.declared.trace.Event.TheVariants.{Request, Response}
use Rattle.text.specs.declared.trace.Event.{Event}
use Rattle.model.specs.Machine.{Next, op, stop, Machine, shown, applied}

-- an item of an order: a trace line, or an operation given as rid and number
pub data Item : Type 0 where
  event : Event → Item
  operation : (rid num : ℕ) → Item

-- from a state on, if there is one
abbrev pub onward : {A B : Type 0} → Option A → (A → Option B) → Option B
onward none f = none
onward (some s) f = f s

module _ (M : Machine) where
  open M use {Process, Content, start, advance, resume, path_so_far, path_at_end, apply}

  -- a request that has not come, one that is open, and one that is closed, each with its operations so far
  pub data Phase : Type 0 where
    absent : Phase
    opened : (process : Process) (operations : ℕ) → Phase
    closed : (path : List ℕ) (operations : ℕ) → Phase

  -- the objects, their logs, and the requests
  pub record State : Type 0 where
    pub contents : ℕ → Content
    pub logs : ℕ → List Entry
    pub phase : ℕ → Phase

  abbrev pub initial : (ℕ → Content) → State
  initial opening = record { contents = opening; logs = λ o. []; phase = λ r. absent }

  -- the state with a request in another phase
  abbrev pub set_phase : State → ℕ → Phase → State
  set_phase s r f = record { contents = s.contents; logs = s.logs; phase = upd s.phase r f }

  -- `request` line: the request opens, with nothing carried out
  abbrev pub arrived : State → (rid prog a b : ℕ) → State
  arrived s r prog a b = set_phase s r (opened (start prog a b) 0)

  -- the answer that an operation gets now, and its log line
  abbrev pub answer_now : State → Op → ℕ
  answer_now s o = (apply o (s.contents o.object)).0

  abbrev pub line_now : State → (rid num : ℕ) → Op → Entry
  line_now s r k o = record { rid = r; num = k; op = shown M o (answer_now s o) }

  -- Operation: the request goes on through it, and its log line joins the end of its object's log.
  abbrev pub operated : State → (rid num : ℕ) → Process → Op → State
  operated s r k p o = record {
    contents = applied M s.contents o;
    logs = upd s.logs o.object (s.logs o.object ++ (line_now s r k o ∷ []));
    phase = upd s.phase r (opened (resume p (answer_now s o)) k);
  }

  -- it must have its number; a reply or cut met first fails the run
  abbrev pub operate_at : State → (rid num : ℕ) → Process → (operations : ℕ) → Next → Option State
  operate_at s r k p n (op o) = cond (eqb k (suc n)) (some (operated s r k p o)) none
  operate_at s r k p n (stop status value) = none

  -- an operation of a request that is not open fails the run
  abbrev pub operate : State → (rid num : ℕ) → Phase → Option State
  operate s r k absent = none
  operate s r k (opened p n) = operate_at s r k p n (advance p)
  operate s r k (closed w n) = none

  -- `response` line: the request goes on to its reply or cut and closes
  abbrev pub replied : State → ℕ → Process → (operations : ℕ) → State
  replied s r p n = set_phase s r (closed (path_at_end p) n)

  -- the reply or cut must have that status and value; an operation met first fails the run
  abbrev pub reply_at : State → (rid status value : ℕ) → Process → (operations : ℕ) → Next → Option State
  reply_at s r t v p n (op o) = none
  reply_at s r t v p n (stop t' v') = cond (eqb t t' && eqb v v') (some (replied s r p n)) none

  -- a response of a request that is not open fails the run
  abbrev pub reply : State → (rid status value : ℕ) → Phase → Option State
  reply s r t v absent = none
  reply s r t v (opened p n) = reply_at s r t v p n (advance p)
  reply s r t v (closed w n) = none

  abbrev pub step : State → Item → Option State
  step s (event (Request r prog a b)) = some (arrived s r prog a b)
  step s (event (Response r status value)) = reply s r status value (s.phase r)
  step s (operation r k) = operate s r k (s.phase r)

  abbrev pub run : List Item → State → Option State
  run [] s = some s
  run (x ∷ xs) s = onward (step s x) (run xs)

  -- the operations and the path of a request, as it stands
  abbrev pub operations_of : Phase → ℕ
  operations_of absent = 0
  operations_of (opened p n) = n
  operations_of (closed w n) = n

  abbrev pub path_of : Phase → List ℕ
  path_of absent = []
  path_of (opened p n) = path_so_far p
  path_of (closed w n) = w
