-- The scope's examples, computed.
use Rattle.std.proofs.Common.{◌≡◌, ℕ, ◌+◌, ◌-◌, ◌^◌, true, false, List, [], ◌∷◌, ◌++◌, map, length, get_or, replicate, refl}
use mathlib.Core.Option.{Option, none, some}
use Rattle.basics.specs.Maps.{upd}
use Rattle.text.specs.declared.programs.Instr.{Instr}
use Rattle.text.specs.declared.programs.Program.{Program}
use Rattle.text.specs.declared.report.Entry.{Entry}
use Rattle.text.specs.declared.report.Op.{Op}
use Rattle.text.specs.declared.trace.Event.TheVariants.{Request, Response}
use Rattle.model.specs.PlainRun.{event, operation, State, initial}
use Rattle.model.specs.PlainRun as plain
use Rattle.machine.specs.declared.instructions.Act.TheVariants.{Goes, Asks, Replies}
use Rattle.machine.specs.declared.processes.Next.{Next}
use Rattle.machine.specs.declared.processes.Next.TheVariants.{Operation, Reply, Cut}
use Rattle.machine.specs.Instructions.{effect, effect_as, effect_of}
use Rattle.machine.specs.Processes.{Advanced, first_locals, go, advance_of, limit}
use Rattle.machine.specs.Rules.{keeps_fields, row2}
use Rattle.machine.specs.Instance.{machine_of}
use Rattle.machine.specs.Objects.{at_start, shown}
use Rattle.machine.specs.Logs.{answers_from}

abbrev instr : (code a b c : ℕ) → Instr
instr code a b c = record { code = code; a = a; b = b; c = c }

abbrev oper : (object kind key value : ℕ) → Op
oper object kind key value = record { object = object; kind = kind; key = key; value = value }

abbrev top : ℕ
top = 2 ^ 64 - 1

-- ── one instruction ──
abbrev three : List ℕ
three = 5 ∷ 3 ∷ 9 ∷ 0 ∷ 0 ∷ 0 ∷ 0 ∷ 0 ∷ []

-- each code, at locals 5, 3, 9; code 5 taken and not; 11 is no code
each-code :
    map (λ i. effect_of three i 1)
    (instr 0 2 0 0 ∷ instr 1 2 7 0 ∷ instr 2 2 0 1 ∷ instr 3 2 0 1 ∷ instr 4 2 1 0 ∷ instr 5 0 4 0 ∷ instr 5 3 4 0
    ∷ instr 6 2 1 0 ∷ instr 7 1 0 0 ∷ instr 8 2 8 1 ∷ instr 9 8 1 0 ∷ instr 10 2 8 1 ∷ instr 11 2 2 2 ∷ [])
    ≡ effect three (Replies 9)
    ∷ effect (5 ∷ 3 ∷ 7 ∷ 0 ∷ 0 ∷ 0 ∷ 0 ∷ 0 ∷ []) (Goes 1)
    ∷ effect (5 ∷ 3 ∷ 8 ∷ 0 ∷ 0 ∷ 0 ∷ 0 ∷ 0 ∷ []) (Goes 1)
    ∷ effect (5 ∷ 3 ∷ 2 ∷ 0 ∷ 0 ∷ 0 ∷ 0 ∷ 0 ∷ []) (Goes 1)
    ∷ effect (5 ∷ 3 ∷ 1 ∷ 0 ∷ 0 ∷ 0 ∷ 0 ∷ 0 ∷ []) (Goes 1)
    ∷ effect three (Goes 4)
    ∷ effect three (Goes 1)
    ∷ effect three (Asks (oper 1 6 0 0) 2)
    ∷ effect three (Asks (oper 1 7 0 5) 8)
    ∷ effect three (Asks (oper 8 8 3 0) 2)
    ∷ effect three (Asks (oper 8 9 3 5) 8)
    ∷ effect three (Asks (oper 8 10 3 0) 2)
    ∷ effect three (Goes 1)
    ∷ []
unfolding effect_as
each-code = refl

-- what a code makes of locals x and y
abbrev makes : (code x y : ℕ) → ℕ
makes code x y = get_or (effect_of (first_locals x y) (instr code 2 0 1) 1).locals 2 0

sums : makes 2 0 0 ∷ makes 2 top 0 ∷ makes 2 top 1 ∷ makes 2 top top ∷ [] ≡ 0 ∷ top ∷ 0 ∷ (top - 1) ∷ []
unfolding effect_as
sums = refl

differences :
    makes 3 0 0 ∷ makes 3 0 1 ∷ makes 3 0 top ∷ makes 3 top 0 ∷ makes 3 top top ∷ []
    ≡ 0 ∷ 18446744073709551615 ∷ 1 ∷ top ∷ 0 ∷ []
unfolding effect_as
differences = refl

-- a row for each x, a column for each y: equal locals, both ends, and the two sides of 2 ^ 63
abbrev ends : List ℕ
ends = 0 ∷ 7 ∷ (2 ^ 63 - 1) ∷ (2 ^ 63) ∷ top ∷ []

comparisons :
    map (λ x. map (makes 4 x) ends) ends
    ≡ (0 ∷ 1 ∷ 1 ∷ 1 ∷ 1 ∷ [])
    ∷ (0 ∷ 0 ∷ 1 ∷ 1 ∷ 1 ∷ [])
    ∷ (0 ∷ 0 ∷ 0 ∷ 1 ∷ 1 ∷ [])
    ∷ (0 ∷ 0 ∷ 0 ∷ 0 ∷ 1 ∷ [])
    ∷ (0 ∷ 0 ∷ 0 ∷ 0 ∷ 0 ∷ [])
    ∷ []
unfolding effect_as
comparisons = refl

-- ── a request as it goes on ──
abbrev run : List Instr → Advanced
run code = advance_of limit code (first_locals 0 0) 0 0

abbrev found : Advanced → ℕ × Next
found r = (r.stop.done, r.stop.next)

-- the program that never replies
endless : found (run (instr 1 2 1 0 ∷ instr 5 2 0 0 ∷ instr 0 0 0 0 ∷ [])) ≡ (256, Cut)
unfolding effect_as go
endless = refl

-- n instructions, then 254 of a loop, then the last ones
abbrev long : ℕ → List Instr → List Instr
long n last = replicate n (instr 1 4 0 0) ++ (instr 1 3 1 0 ∷ instr 1 2 126 0 ∷ instr 3 2 2 3 ∷ instr 5 2 (n + 2) 0 ∷ []) ++ last

reply-256 : found (run (long 1 (instr 0 3 0 0 ∷ []))) ≡ (256, Reply 1)
unfolding effect_as go
reply-256 = refl

reply-257 : found (run (long 2 (instr 0 3 0 0 ∷ []))) ≡ (256, Cut)
unfolding effect_as go
reply-257 = refl

-- an operation as 256th is carried out, and the request then cut
abbrev reader : List Instr
reader = long 1 (instr 6 0 1 0 ∷ instr 0 0 0 0 ∷ [])

operation-256 : found (run reader) ≡ (256, Operation (oper 1 6 0 0) 0)
unfolding effect_as go
operation-256 = refl

cut-after : (advance_of limit reader (run reader).locals (run reader).stop.at (run reader).stop.done).stop.next ≡ Cut
unfolding effect_as go
cut-after = refl

-- the path: the positions of the instructions carried out
loop-path : (advance_of 5 (instr 1 2 1 0 ∷ instr 5 2 0 0 ∷ instr 0 0 0 0 ∷ []) (first_locals 0 0) 0 0).path ≡ 0 ∷ 1 ∷ 0 ∷ 1 ∷ 0 ∷ []
unfolding effect_as go
loop-path = refl

-- ── the program rules ──
-- in a program of 3, the fields at their last good values
good :
    map (keeps_fields 3)
    (instr 0 7 0 0 ∷ instr 1 7 top 0 ∷ instr 2 7 7 7 ∷ instr 3 7 7 7 ∷ instr 4 7 7 7 ∷ instr 5 7 2 0 ∷ instr 6 7 7 0 ∷ instr 7 7 7 0
    ∷ instr 8 7 8 7 ∷ instr 8 7 15 7 ∷ instr 9 8 7 7 ∷ instr 9 15 7 7 ∷ instr 10 7 8 7 ∷ instr 10 7 15 7 ∷ [])
    ≡ replicate 14 true
good = refl

-- and each at its first bad one; 11 is no code
bad :
    map (keeps_fields 3)
    (instr 0 8 0 0 ∷ instr 0 7 1 0 ∷ instr 0 7 0 1 ∷ instr 1 8 0 0 ∷ instr 1 7 0 1
    ∷ instr 2 8 7 7 ∷ instr 2 7 8 7 ∷ instr 2 7 7 8 ∷ instr 3 8 7 7 ∷ instr 3 7 8 7 ∷ instr 3 7 7 8
    ∷ instr 4 8 7 7 ∷ instr 4 7 8 7 ∷ instr 4 7 7 8 ∷ instr 5 8 2 0 ∷ instr 5 7 3 0 ∷ instr 5 7 2 1
    ∷ instr 6 8 7 0 ∷ instr 6 7 8 0 ∷ instr 6 7 7 1 ∷ instr 7 8 7 0 ∷ instr 7 7 8 0 ∷ instr 7 7 7 1
    ∷ instr 8 8 8 7 ∷ instr 8 7 7 7 ∷ instr 8 7 16 7 ∷ instr 8 7 8 8 ∷ instr 9 7 7 7 ∷ instr 9 16 7 7 ∷ instr 9 8 8 7 ∷ instr 9 8 7 8
    ∷ instr 10 8 8 7 ∷ instr 10 7 7 7 ∷ instr 10 7 16 7 ∷ instr 10 7 8 8 ∷ instr 11 0 0 0 ∷ [])
    ≡ replicate 36 false
bad = refl

abbrev program : ℕ → List Instr → Program
program number code = record { number = number; n = length code; code = code }

-- one instruction that replies
abbrev short : List Instr
short = instr 0 0 0 0 ∷ []

-- no program; two good ones; a local 8; a wrong last code; an empty program, at its own line; a number out of sequence; a target in program 1
-- that is its number of instructions
broken :
    map row2
    ([]
    ∷ (program 0 short ∷ program 1 short ∷ [])
    ∷ (program 0 (instr 0 8 0 0 ∷ []) ∷ [])
    ∷ (program 0 (instr 1 0 0 0 ∷ instr 1 0 0 0 ∷ []) ∷ [])
    ∷ (program 0 short ∷ program 1 [] ∷ program 2 short ∷ [])
    ∷ (program 0 short ∷ program 2 short ∷ [])
    ∷ (program 0 short ∷ program 1 (instr 5 0 2 0 ∷ instr 0 0 0 0 ∷ []) ∷ [])
    ∷ [])
    ≡ none ∷ none ∷ some 2 ∷ some 3 ∷ some 3 ∷ some 3 ∷ some 4 ∷ []
broken = refl

-- ── the objects ──
-- a write is read again, whatever value the line of the read shows; a store has its keys apart, a register none; a key put as 0 or never put
-- reads 0; a kind that does not fit its object does not write
answers :
    answers_from at_start
    (map (λ o. record { rid = 0; num = 0; op = o })
    (oper 0 7 0 4 ∷ oper 0 6 0 9 ∷ oper 1 6 0 0 ∷ oper 0 7 5 6 ∷ oper 0 6 9 0 ∷ oper 8 9 2 7 ∷ oper 8 8 2 9 ∷ oper 8 8 3 0 ∷ oper 9 8 2 0
    ∷ oper 8 9 2 0 ∷ oper 8 8 2 0 ∷ oper 0 9 0 1 ∷ oper 0 6 0 0 ∷ oper 8 9 2 1 ∷ oper 8 7 2 3 ∷ oper 8 8 2 0 ∷ []))
    ≡ 0 ∷ 4 ∷ 0 ∷ 0 ∷ 6 ∷ 0 ∷ 7 ∷ 0 ∷ 0 ∷ 0 ∷ 0 ∷ 6 ∷ 6 ∷ 0 ∷ 1 ∷ 1 ∷ []
answers = refl

-- Well 7 is asked for, filled with volume 0, asked for again and read; well 12, never filled, is asked for and read. Code 8 cannot tell them
-- apart, code 10 can. Then another volume for well 7; the same key in another store; and lines of kind 10 with a value, on a store and on a
-- register, which put and write nothing.
wells :
    answers_from at_start
    (map (λ o. record { rid = 0; num = 0; op = o })
    (oper 8 10 7 0 ∷ oper 8 9 7 0 ∷ oper 8 10 7 0 ∷ oper 8 8 7 0 ∷ oper 8 10 12 0 ∷ oper 8 8 12 0
    ∷ oper 8 9 7 250 ∷ oper 8 10 7 0 ∷ oper 8 8 7 0 ∷ oper 9 10 7 0
    ∷ oper 8 10 12 1 ∷ oper 8 10 12 0 ∷ oper 0 10 0 5 ∷ oper 0 6 0 0 ∷ []))
    ≡ 0 ∷ 0 ∷ 1 ∷ 0 ∷ 0 ∷ 0
    ∷ 0 ∷ 1 ∷ 250 ∷ 0
    ∷ 0 ∷ 0 ∷ 0 ∷ 0 ∷ []
wells = refl

-- what the log line of each kind shows, of an operation with the answer 5
shows :
    map (λ o. shown o 5) (oper 1 6 0 0 ∷ oper 1 7 0 4 ∷ oper 8 8 2 0 ∷ oper 8 9 2 7 ∷ oper 8 10 2 0 ∷ [])
    ≡ oper 1 6 0 5 ∷ oper 1 7 0 4 ∷ oper 8 8 2 5 ∷ oper 8 9 2 7 ∷ oper 8 10 2 5 ∷ []
shows = refl

-- ── the plain run of case C's programs ──
abbrev programs_c : List Program
programs_c =
    program 0 (instr 1 2 1 0 ∷ instr 7 0 2 0 ∷ instr 6 0 1 0 ∷ instr 0 0 0 0 ∷ [])
    ∷ program 1 (instr 1 2 1 0 ∷ instr 7 1 2 0 ∷ instr 6 0 0 0 ∷ instr 0 0 0 0 ∷ []) ∷ []

abbrev entry : (rid num : ℕ) → Op → Entry
entry rid num o = record { rid = rid; num = num; op = o }

-- the logs of registers 0 and 1
abbrev logs_of : Option (State (machine_of programs_c)) → List (List Entry)
logs_of none = []
logs_of (some s) = s.logs 0 ∷ s.logs 1 ∷ []

-- both reads show 1
logs-C :
    logs_of (plain.run (machine_of programs_c)
    (event (Request 1 0 0 0) ∷ operation 1 1 ∷ event (Request 2 1 0 0) ∷ operation 2 1 ∷ operation 2 2 ∷ operation 1 2
    ∷ event (Response 1 0 1) ∷ event (Response 2 0 1) ∷ []) (initial (machine_of programs_c) at_start))
    ≡ (entry 1 1 (oper 0 7 0 1) ∷ entry 2 2 (oper 0 6 0 1) ∷ [])
    ∷ (entry 2 1 (oper 1 7 0 1) ∷ entry 1 2 (oper 1 6 0 1) ∷ [])
    ∷ []
unfolding upd go effect_as
logs-C = refl

-- the path of request 1, where it is left open before its first operation, behind it, behind its last; and where it is answered
abbrev path_of1 : Option (State (machine_of programs_c)) → List ℕ
path_of1 none = []
path_of1 (some s) = plain.path_of (machine_of programs_c) (s.phase 1)

paths :
    map (λ order. path_of1 (plain.run (machine_of programs_c) (event (Request 1 0 0 0) ∷ order) (initial (machine_of programs_c) at_start)))
    ([] ∷ (operation 1 1 ∷ []) ∷ (operation 1 1 ∷ operation 1 2 ∷ []) ∷ (operation 1 1 ∷ operation 1 2 ∷ event (Response 1 0 0) ∷ []) ∷ [])
    ≡ (0 ∷ []) ∷ (0 ∷ 0 ∷ 1 ∷ []) ∷ (0 ∷ 0 ∷ 1 ∷ 2 ∷ []) ∷ (0 ∷ 0 ∷ 1 ∷ 2 ∷ 3 ∷ []) ∷ []
unfolding upd go effect_as
paths = refl
