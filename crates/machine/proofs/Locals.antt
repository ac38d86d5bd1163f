-- A request keeps as many locals as it has.
use Rattle.std.proofs.Common.{◌≡◌, ℕ, zero, suc, ◌+◌, ◌%◌, Bool, true, false, cond, ltb, List, length, set, refl, ◌∙◌, length-set}
use Rattle.text.specs.Codes.{Code, reply, constant, add, subtract, less, jump, read, write, get, put, has, other, code_of}
use Rattle.text.specs.declared.programs.Instr.{Instr}
use Rattle.machine.specs.Instructions.{effect_as, effect_of, no_local}
use Rattle.machine.specs.Processes.{Advanced, instr_at, go, resumed}
use Rattle.machine.proofs.Steps.{follow}
use Rattle.machine.specs.declared.instructions.Act.TheVariants.{Goes, Asks, Replies}
use Rattle.machine.specs.declared.instructions.Act.{Act}

effect-length : (c : Code) (l : List ℕ) (i : Instr) (n : ℕ) → length (effect_as c l i n).locals ≡ length l
unfolding effect_as
effect-length reply l i n = refl
effect-length constant l i n = length-set l _ _
effect-length add l i n = length-set l _ _
effect-length subtract l i n = length-set l _ _
effect-length less l i n = length-set l _ _
effect-length jump l i n = refl
effect-length read l i n = refl
effect-length write l i n = refl
effect-length get l i n = refl
effect-length put l i n = refl
effect-length has l i n = refl
effect-length other l i n = refl

follow-length : (x : Act) (l : List ℕ) (m n done : ℕ) (f : List ℕ → ℕ → Advanced) →
    ((to : ℕ) → length (f l to).locals ≡ m) → length l ≡ m → length (follow x l n done f).locals ≡ m
follow-length (Goes to) l m n done f h e = h to
follow-length (Asks o into) l m n done f h e = e
follow-length (Replies v) l m n done f h e = e

pub go-length : (k : ℕ) (p : List Instr) (l : List ℕ) (at done : ℕ) → length (go k p l at done).locals ≡ length l
unfolding go
go-length zero p l at done = refl
go-length (suc k) p l at done =
    let i = instr_at p at in
    let e = effect_of l i (at % 64 + 1) in
    let d = effect-length (code_of i.code) l i (at % 64 + 1) in
    follow-length e.act e.locals (length l) (at % 64 + 1) (done + 1) (λ m to. go k p m to (done + 1))
    (λ to. go-length k p e.locals to (done + 1) ∙ d) d

pub resumed-length : (l : List ℕ) (into v : ℕ) → length (resumed l into v) ≡ length l
resumed-length l into v = by (ltb into no_local)
  where
    by : (b : Bool) → length (cond b (set l into v) l) ≡ length l
    by true = length-set l into v
    by false = refl
