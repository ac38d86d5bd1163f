-- The machine as the plain run, the audit and the host see it: what a process does next, and what an operation does to an object.
use Rattle.std.specs.Prelude.{◌≡◌, List, ℕ}
use Rattle.basics.specs.Maps.{upd}
use Rattle.text.specs.declared.report.Op.{Op}

-- What a process does next: an operation, or it stops with a status and a value (0 and the reply; 1 and 0 where it is cut off).
pub data Next : Type 0 where
  op : Op → Next
  stop : (status value : ℕ) → Next

-- A path is the program number and then the positions of the instructions carried out.
pub record Machine : Type 1 where
  pub Process : Type 0
  pub Content : Type 0
  -- a request as it arrives, with nothing carried out
  pub start : (prog a b : ℕ) → Process
  -- what it does next
  pub advance : Process → Next
  -- the process behind its next operation, with the answer
  pub resume : Process → ℕ → Process
  -- the path of a process that waits for its next operation, and of one that has stopped, its last instruction included
  pub path_so_far : Process → List ℕ
  pub path_at_end : Process → List ℕ
  -- the answer of an operation, and what it leaves in its object
  pub apply : Op → Content → ℕ × Content
  -- the value field of an operation's log line, given its answer
  pub logged : Op → ℕ → ℕ
  -- a log line, done again, answers and leaves what its operation did
  pub logged_apply : (o : Op) (c : Content) →
      apply (record { object = o.object; kind = o.kind; key = o.key; value = logged o (apply o c).0 }) c ≡ apply o c

-- an operation as its log line has it
abbrev pub shown : (M : Machine) → Op → ℕ → Op
shown M o answer = record { object = o.object; kind = o.kind; key = o.key; value = M.logged o answer }

-- the objects behind an operation
abbrev pub applied : (M : Machine) → (ℕ → M.Content) → Op → ℕ → M.Content
applied M c o = upd c o.object (M.apply o (c o.object)).1
