-- What the private functions promise.
use Rattle.std.specs.Prelude.{Bool, true, false, not, cond, ◌&&◌, List, [], ◌∷◌, ◌≡◌, ℕ, ◌+◌, ◌%◌, ◌≤◌, ◌<◌, eqb, get_or, length, take, Option, Some, None, Result}
use Rattle.std.proofs.Math.Option.{none, some}
use Rattle.std.proofs.Math.Option as Math
use Rattle.basics.specs.Scans.{FirstFrom}
use Rattle.text.specs.Formats.{most_entries, most_objects, most_ofs, most_programs}
use Rattle.text.specs.Held.{of_at, most_items}
use Rattle.text.specs.declared.programs.Instr.{Instr}
use Rattle.text.specs.declared.programs.Program.{Program}
use Rattle.text.specs.declared.report.Entry.{Entry}
use Rattle.text.specs.declared.report.Of.{Of}
use Rattle.text.specs.declared.report.Op.{Op}
use Rattle.text.specs.declared.trace.Event.TheVariants.{Request, Response}
use Rattle.text.specs.declared.trace.Event.{Event}
use Rattle.model.specs.Audit.{same_reply, replay_checks, row9}
use Rattle.model.specs.Batch.{Batch, Node, ev, ln}
use Rattle.model.specs.Checks.{first_fault, breaks}
use Rattle.model.specs.Nodes.{rid}
use Rattle.model.specs.Replay.{Reply, silent, said, Outcome, differs, ended, Answer, wrong, right, Claim, claim, compare, replay, request_of}
use Rattle.cells.specs.Rows.{most_cells}
use Rattle.machine.specs.Processes.{limit}
use Rattle.machine.specs.Instance.{Process, code_at, machine_of}
use Rattle.machine.specs.declared.objects.Objects.{Objects}
use Rattle.machine.specs.Held.{ObjectsHeld}
use Rattle.machine.specs.Logs.{answers_from}
use Rattle.machine.specs.Objects.{Content}
use Rattle.replay.specs.Held.{node_at}
use Rattle.replay.specs.Index.{Claimed}
use Rattle.replay.specs.Judges.{Ready, verdict_of}
use Rattle.replay.specs.declared.batch.Fault.{Fault}
use Rattle.replay.specs.declared.lookups.Arrival.{Arrival}
use Rattle.replay.specs.declared.lookups.Response.{Response as Said}
use Rattle.replay.specs.declared.orders.Item.{Item}
use Rattle.replay.specs.declared.orders.Items.{Items}
use Rattle.replay.specs.declared.paths.Path.{Path}

-- ── lines by their request ──
abbrev pub arrival_of : List Event → ℕ → Option Arrival
arrival_of [] r = None
arrival_of (Request q prog a b ∷ es) r = cond (eqb q r) (Some (record { prog = prog; a = a; b = b })) (arrival_of es r)
arrival_of (Response q status value ∷ es) r = arrival_of es r

-- what a request was answered with, if it was
abbrev pub replied_as : Option Said → Reply
replied_as None = silent
replied_as (Some x) = said x.status x.value

-- whether it was left open
abbrev pub left_open : Reply → Bool
left_open silent = true
left_open (said status value) = false

-- ── claims ──
-- contents at the start that give the answers
abbrev pub AnsweredFrom : (opening : ℕ → Content) → Claimed → Type 0
AnsweredFrom opening c = take (length c.log) c.answers ≡ answers_from opening c.log

-- what a replay rests on, whatever it is: the programs, and contents at the start that give the answers
pub record Setting (c : Claimed) : Type 0 where
  pub table : List Program
  pub opening : ℕ → Content
  pub answered : AnsweredFrom opening c

-- a log with its answers, from the objects as they are
pub record PreparedFrom (o : Objects) (log : List Entry) (c : Claimed) : Type 0 where
  pub lines : c.log ≡ log
  pub answered : (opening : ℕ → Content) → ObjectsHeld o opening → o.stores.used + most_entries ≤ most_cells → AnsweredFrom opening c

-- an operation held against the line that claims it
abbrev pub answered_as : Option ℕ → Answer
answered_as None = wrong
answered_as (Some v) = right v

-- the claims of a request's operations
abbrev pub claimed_in : {c : Claimed} (w : Setting c) → (rid num : ℕ) → Claim (machine_of w.table)
claimed_in {c} w r = claim (machine_of w.table) c.log w.opening r

abbrev pub Answers : Claimed → (rid num : ℕ) → Op → Option ℕ → Type 0
Answers c r k o x = (w : Setting c) → answered_as x ≡ compare (machine_of w.table) o (claimed_in w r k)

-- ── replays ──
-- How many instructions a request may carry out that has done k operations in `done` instructions: no more, where it was left open behind
-- them.
abbrev pub most_of : (is_open : Bool) (k count done : ℕ) → ℕ
most_of is_open k count done = cond (is_open && eqb k count) done limit

-- how a replay came out, with its way
abbrev pub outcome_of : Option (Option Said) → (way : List ℕ) → Outcome
outcome_of None way = differs
outcome_of (Some reply) way = ended (replied_as reply) way

-- the replay of a process that has `left` operations to do, the next of which has the number k
abbrev pub replay_of : {c : Claimed} → Setting c → (rid : ℕ) → Reply → (left k : ℕ) → Process → Outcome
replay_of w r reply left k p = replay (machine_of w.table) (claimed_in w r) reply left k p ((machine_of w.table).advance p)

-- the replay of a request with inputs a and b, left open or not, whatever its program's number and its response
pub record Replays (c : Claimed) (rid count a b : ℕ) (is_open : Bool) (code : List Instr) (positions : List ℕ)
    (end : Option (Option Said)) : Type 0 where
  pub outcome : (w : Setting c) (prog : ℕ) (reply : Reply) → code_at w.table prog ≡ code → left_open reply ≡ is_open →
      outcome_of end (prog ∷ positions) ≡ replay_of w rid reply count 1 ((machine_of w.table).start prog a b)

-- ── rows 10 to 12 of one request ──
-- the way of a request, as the model has it
abbrev pub way : Path → List ℕ
way p = p.prog ∷ p.positions.items

-- the replay of the request of an `of` line, which has the response `reply`
abbrev pub replayed : (table : List Program) → Claimed → (opening : ℕ → Content) → Of → Reply → Math.Option Process → Outcome
replayed table c opening x reply none = differs
replayed table c opening x reply (some p) =
    replay (machine_of table) (claim (machine_of table) c.log opening x.rid) reply x.count 1 p ((machine_of table).advance p)

-- the request of a rid has a program that there may be
abbrev pub InTable : List Event → (rid : ℕ) → Type 0
InTable events r = (a : Arrival) → arrival_of events r ≡ Some a → a.prog < most_programs

pub record ReplaysRequest (table : List Program) (events : List Event) (x : Of) (is_open : Bool) (c : Claimed) (path : Path)
    (end : Option (Option Said)) : Type 0 where
  pub outcome : InTable events x.rid → (opening : ℕ → Content) → AnsweredFrom opening c → (reply : Reply) → left_open reply ≡ is_open →
      outcome_of end (way path) ≡ replayed table c opening x reply (request_of (machine_of table) events x.rid)

-- the row that a request breaks first: how its replay came out, its response, and whether its way is that of the first of its group
abbrev pub row_by : Option (Option Said) → Option Said → (same_way : Bool) → Option ℕ
row_by None reply same_way = Some 10
row_by (Some own) reply same_way =
    cond (not (same_reply (replied_as own) (replied_as reply))) (Some 11) (cond same_way None (Some 12))

-- r is the first fault of rows 10 to 12
abbrev pub JudgesRequests : List Program → Batch → Claimed → Result (Unit {0}) Fault → Type 0
JudgesRequests table b c r = (known : ℕ → Bool) → Ready known b → c.log ≡ b.log →
    (opening : ℕ → Content) → AnsweredFrom opening c →
    verdict_of r ≡ first_fault (replay_checks (machine_of table) opening b 1 b.ofs)

-- ── items ──
-- an item's lane and number as the arrays can hold them; c is its request's count
abbrev pub lane_in : Node → ℕ
lane_in (ev e) = 0
lane_in (ln l) = l.op.object % most_objects + 1

abbrev pub number_in : (c : ℕ) → Node → ℕ
number_in c (ev (Request r prog a b)) = 0
number_in c (ev (Response r status value)) = c % 65535 + 1
number_in c (ln l) = l.num % 65536

pub record ItemIs (ofs : List Of) (x : Node) (i : Item) : Type 0 where
  pub few : length ofs ≤ most_ofs
  pub lane_is : i.lane ≡ lane_in x
  pub place : FirstFrom (λ k. eqb (of_at ofs k).rid (rid x)) 0 (length ofs) i.request
  pub number_is : i.number ≡ number_in (of_at ofs i.request).count x

abbrev pub item_of : Items → ℕ → Item
item_of x j = record { lane = get_or x.lane j 0; request = get_or x.request j 0; number = get_or x.number j 0 }

-- the first i items stand in the arrays
pub record ItemsTo (b : Batch) (i : ℕ) (x : Items) : Type 0 where
  pub lane_room : length x.lane ≡ most_items
  pub request_room : length x.request ≡ most_items
  pub number_room : length x.number ≡ most_items
  pub items : (j : ℕ) → j < i → ItemIs b.ofs (node_at b j) (item_of x j)

-- row 9, of a batch that is ready
abbrev pub Returns : Batch → Bool → Type 0
Returns b r = (known : ℕ → Bool) → Ready known b → breaks r 0 ≡ row9 b
