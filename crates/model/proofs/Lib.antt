-- The theorems
pub mod Main
-- The rows of the audit as facts
pub mod Scans
pub mod LineScans
pub mod Trace
pub mod Claims
pub mod Equal
pub mod Passes
-- The items of a batch, and "comes before" among them
pub mod Nodes
pub mod Requests
pub mod Mapped
pub mod Items
pub mod Precedes
-- Demand 3 for the audit
pub mod Ahead
pub mod Simulation
pub mod Sound
pub mod Runs
pub mod Placed
pub mod Complete
pub mod Audited
-- Demand 3 for the host
pub mod Report
pub mod Faithful
pub mod Recorded
pub mod Ranges
-- The orders of an accepted batch
pub mod Weaker
pub mod Printed
pub mod ByRule
pub mod Closing
pub mod LeftOpen
pub mod Answers
pub mod Orders
-- Computed examples
mod Example
mod Cases
