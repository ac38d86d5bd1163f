-- The definitions, in reading order.
pub mod Recorded
pub mod Records
pub mod Accepted
pub mod Printed
-- What private functions promise
pub mod Steps
pub mod Requests
pub mod Moves
pub mod Runs
