-- The formats of the four texts: the word of each line, the largest number of each field (the smallest is 0), and how many of it there may be.
use Rattle.std.specs.Prelude.{ℕ, ◌-◌, [], ◌∷◌}
use Rattle.lines.specs.Bytes.{bytes}
use Rattle.lines.specs.Line.{Format, any}

-- the most bytes of a text
abbrev pub most_bytes : ℕ
most_bytes = 65535

-- how many request ids there are, and the largest
abbrev pub most_rids : ℕ
most_rids = 65536

abbrev pub most_rid : ℕ
most_rid = most_rids - 1

-- program=n
abbrev pub program_line : Format
program_line = record { word = bytes "program="; largest = any ∷ [] }

-- the most programs, and the most instructions of one
abbrev pub most_programs : ℕ
most_programs = 16

abbrev pub most_instructions : ℕ
most_instructions = 64

-- do=code,a,b,c
abbrev pub do_line : Format
do_line = record { word = bytes "do="; largest = any ∷ any ∷ any ∷ any ∷ [] }

-- request=rid,prog,a,b
abbrev pub request_line : Format
request_line = record { word = bytes "request="; largest = most_rid ∷ any ∷ any ∷ any ∷ [] }

-- the most requests of a trace
abbrev pub most_requests : ℕ
most_requests = 64

-- response=rid,status,value
abbrev pub response_line : Format
response_line = record { word = bytes "response="; largest = most_rid ∷ 1 ∷ any ∷ [] }

-- the most responses of a trace
abbrev pub most_responses : ℕ
most_responses = 64

-- the largest group of an `of` line
abbrev pub most_group : ℕ
most_group = 63

-- the most operations of a request, and so the largest number of one
abbrev pub most_operations : ℕ
most_operations = 256

-- of=rid,group,count
abbrev pub of_line : Format
of_line = record { word = bytes "of="; largest = most_rid ∷ most_group ∷ most_operations ∷ [] }

-- the most `of` lines of a report
abbrev pub most_ofs : ℕ
most_ofs = 64

-- how many objects there are
abbrev pub most_objects : ℕ
most_objects = 16

-- log=object,rid,num,kind,key,value, where the kind is the code of an operation
abbrev pub log_line : Format
log_line = record { word = bytes "log="; largest = (most_objects - 1) ∷ most_rid ∷ most_operations ∷ any ∷ any ∷ any ∷ [] }

-- the most `log` lines of a report
abbrev pub most_entries : ℕ
most_entries = 1024

-- arrive=rid,prog,a,b
abbrev pub arrive_line : Format
arrive_line = record { word = bytes "arrive="; largest = most_rid ∷ any ∷ any ∷ any ∷ [] }

-- the most arrivals of a schedule
abbrev pub most_arrivals : ℕ
most_arrivals = 64

-- turn=rid
abbrev pub turn_line : Format
turn_line = record { word = bytes "turn="; largest = most_rid ∷ [] }
