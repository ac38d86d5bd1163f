-- A report's log: what its lines leave in the objects, and what each line's operation answers.
use Rattle.std.specs.Prelude.{ℕ, zero, suc, Bool, cond, ◌&&◌, List, [], ◌∷◌, Option, Some, None, ◌==◌}
use Rattle.basics.specs.Firsts.{firsts}
use Rattle.text.specs.declared.report.Entry.{Entry}
use Rattle.text.specs.declared.report.Op.{Op}
use Rattle.machine.specs.Objects.{Content, apply, is_register, is_write, is_put}

-- the operation of each line
abbrev pub ops : (ℕ → Entry) → ℕ → Op
ops line i = (line i).op

-- the objects after an operation, and after the lines of a log
abbrev pub after : (ℕ → Content) → Op → ℕ → Content
after cs o object = cond (o.object == object) (apply o (cs o.object)).1 (cs object)

abbrev pub after_all : (ℕ → Content) → List Entry → ℕ → Content
after_all cs [] = cs
after_all cs (l ∷ ls) = after_all (after cs l.op) ls

-- the answer of each line's operation, one done after the other
abbrev pub answers_from : (ℕ → Content) → List Entry → List ℕ
answers_from cs [] = []
answers_from cs (l ∷ ls) = (apply l.op (cs l.op.object)).0 ∷ answers_from (after cs l.op) ls

-- the answer of line i alone
abbrev pub answer_at : (ℕ → Content) → (ℕ → Entry) → ℕ → ℕ
answer_at cs line i = (apply (line i).op (after_all cs (firsts line i) (line i).op.object)).0

-- whether a line is a write of an object, of a store at the key: one of kind 7 on a register, whatever its key, or of kind 9 on a store
abbrev pub writes : (object key : ℕ) → Op → Bool
writes object key o = o.object == object && cond (is_register object) (is_write o) (is_put o && o.key == key)

-- the nearest write above line n
unfoldable pub nearest : (ℕ → Op) → (object key n : ℕ) → Option ℕ
nearest line object key zero = None
nearest line object key (suc n) = cond (writes object key (line n)) (Some (line n).value) (nearest line object key n)
