-- Laws that the functions' proofs cite
pub mod ReportRanges
pub mod Rows4To7
pub mod Rows8To12
pub mod Verdicts
pub mod Refusals
pub mod PrintedLines
-- Demand 3 for texts
pub mod Acceptance
-- The order of an accepted batch: what holds of it, how long it is, and how it is written
pub mod OrderReads
pub mod OrderTexts
pub mod OrderRanges
pub mod OrderFilling
-- What the crate comes to
pub mod Main
-- Computed examples, which the host's table takes over
pub mod Stars
pub mod RowPairs
