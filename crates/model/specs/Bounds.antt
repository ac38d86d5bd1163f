-- What the host's half of demand 3 asks of a machine: its operations name objects that there are, and its fields stay in range.
use Rattle.std.specs.Prelude.{◌≡◌, ℕ, suc, ◌≤◌, ◌<◌}
use Rattle.text.specs.declared.report.Op.{Op}
use Rattle.model.specs.Machine.{Machine, op, stop, shown}

-- the objects that operations name are below a number
abbrev pub Within : Machine → ℕ → Type 0
Within M objects = (p : M.Process) (o : Op) → M.advance p ≡ op o → o.object < objects

-- The ranges that a machine keeps, by predicates of its own.
pub record Bounded (M : Machine) : Type 1 where
  -- a process in range, with at most n operations to come
  pub Fit : (n : ℕ) → M.Process → Type 0
  -- an object's content, a request's inputs, a log line's operation, and a response, in range
  pub FitContent : M.Content → Type 0
  pub FitInput : (prog a b : ℕ) → Type 0
  pub FitOp : Op → Type 0
  pub FitReply : (status value : ℕ) → Type 0
  -- the most operations of a request
  pub most : ℕ
  pub starts : (prog a b : ℕ) → FitInput prog a b → Fit most (M.start prog a b)
  pub operates : (n : ℕ) (p : M.Process) (o : Op) (c : M.Content) → Fit n p → M.advance p ≡ op o → FitContent c →
      FitOp (shown M o (M.apply o c).0) × FitContent (M.apply o c).1
      × ((m : ℕ) × (suc m ≤ n) × Fit m (M.resume p (M.apply o c).0))
  pub stops : (n : ℕ) (p : M.Process) (status value : ℕ) → Fit n p → M.advance p ≡ stop status value → FitReply status value
