-- What is promised of a read: no more bytes than the buffer has.
use Rattle.std.specs.Prelude.{ℕ, ◌≤◌, List, length, Result, IfOk}

abbrev pub Fits : {E : Type 0} → Result ℕ E → List ℕ → Type 0
Fits r buf = IfOk r (λ n. n ≤ length buf)
