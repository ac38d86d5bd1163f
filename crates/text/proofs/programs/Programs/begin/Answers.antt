-- A program begins in its place.
use Rattle.std.proofs.Common.{refl}
use Rattle.text.proofs.ProgramsReading.{begin-full, begin-joins}
use Rattle.text.proofs.programs.Programs.begin.Goals as goal

pub returns-then-self-ge-PROGRAMS : goal.returns-then-self-ge-PROGRAMS
returns-then-self-ge-PROGRAMS c = λ h. begin-full _ h _ c.if-self-ge-PROGRAMS.true

pub returns : goal.returns
returns c = λ h. begin-joins _ h _ c.if-self-ge-PROGRAMS.false _ refl (rw c.new.ensures refl)
