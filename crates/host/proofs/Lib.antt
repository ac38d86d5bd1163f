-- What the host comes to on texts (Main). The worked schedules, computed (Stars); what was read is in range (Readings); what is written stands
-- in front of the buffers (Fronts), reads back (ReadBack), is accepted (Acceptance) and printed (PrintedTexts); a refusal has a number of its
-- own (Numbering). And the laws that functions rest on: of calls of std (Promises), of row 16 (Fitting), of the log by object (Sorting), of
-- the program table (Tables), of what a line of the schedule does to what is kept (Advancing, Slots, Joining), and of the run, line by line
-- (Running, Arriving; a turn: Turning, Replying, Operating; either: Turned) and at its end (Finishing, Recording).
pub mod Main
mod Stars
pub mod Readings
pub mod Fronts
pub mod ReadBack
pub mod Numbering
pub mod Acceptance
pub mod PrintedTexts
pub mod Promises
pub mod Fitting
pub mod Sorting
pub mod Tables
pub mod Advancing
pub mod Slots
pub mod Joining
pub mod Running
pub mod Arriving
pub mod Turning
pub mod Replying
pub mod Operating
pub mod Turned
pub mod Finishing
pub mod Recording
