-- The machine and what is read
pub mod Machine
pub mod Batch
-- What is asked of the lines: rows 4 and 6, rows 7 and 8
pub mod FirstBad
pub mod Requests
pub mod Claims
-- The plain run, and demand 3
pub mod PlainRun
pub mod Allowed
pub mod Demand
pub mod Answers
-- "Comes before", and an order to read
pub mod Precedes
pub mod ByRule
-- The audit: checks in order, the merge, the replay, the rows of the table
pub mod Checks
pub mod Nodes
pub mod Orders
pub mod Replay
pub mod Audit
-- The reference host, and the ranges that it keeps
pub mod Host
pub mod Bounds
pub mod Ranges
