-- The objects: what an operation answers and leaves, and what its log line shows. Only this file knows which kinds change an
-- object, and which show their answer.
use Rattle.std.specs.Prelude.{ℕ, Bool, cond, ◌||◌, Option, Some, None, ◌==◌, nat_lt}
use Rattle.text.specs.declared.report.Op.{Op}
use Rattle.machine.specs.Limits.{first_store}

-- a register has a value, a store what it holds at each key
pub data Content : Type 0 where
  register : ℕ → Content
  store : (ℕ → Option ℕ) → Content

-- the objects below the first store are registers
abbrev pub is_register : ℕ → Bool
is_register object = nat_lt object first_store

-- the objects at the start: 0 in each register, no key put in any store
abbrev pub at_start : ℕ → Content
at_start object = cond (is_register object) (register 0) (store (λ key. None))

-- a key never put reads 0
abbrev pub value_of : Option ℕ → ℕ
value_of None = 0
value_of (Some v) = v

-- 1 for a key that was put, be it as 0; 0 for a key never put
abbrev pub held_of : Option ℕ → ℕ
held_of None = 0
held_of (Some v) = 1

-- kind 7 writes a register, kind 9 puts into a store; nothing else changes an object
abbrev pub is_write : Op → Bool
is_write o = o.kind == 7

abbrev pub is_put : Op → Bool
is_put o = o.kind == 9

abbrev pub changes : Op → Content → Bool
changes o (register v) = is_write o
changes o (store cells) = is_put o

abbrev pub written : Op → Content → Content
written o (register v) = register o.value
written o (store cells) = store (λ key. cond (o.key == key) (Some o.value) (cells key))

-- kind 10 asks a store whether it holds a key
abbrev pub is_has : Op → Bool
is_has o = o.kind == 10

-- what an operation finds in its key's cell: kind 10 whether the key was put, every other kind the value
abbrev pub finds : Op → Option ℕ → ℕ
finds o held = cond (is_has o) (held_of held) (value_of held)

-- what it reads: a register, whatever its key, or its key's cell in a store
abbrev pub reads : Op → Content → ℕ
reads o (register v) = v
reads o (store cells) = finds o (cells o.key)

-- an operation's answer, 0 where it changes its object, and what it leaves
abbrev pub apply : Op → Content → ℕ × Content
apply o c = (cond (changes o c) 0 (reads o c), cond (changes o c) (written o c) c)

-- kinds 6, 8 and 10 read
abbrev pub is_read : Op → Bool
is_read o = o.kind == 6 || (o.kind == 8 || is_has o)

-- the value field of an operation's log line, given its answer: what was read, or the value that is written
abbrev pub logged : Op → ℕ → ℕ
logged o answer = cond (is_read o) answer o.value

-- an operation as its log line has it
abbrev pub shown : Op → (answer : ℕ) → Op
shown o answer = record { object = o.object; kind = o.kind; key = o.key; value = logged o answer }
