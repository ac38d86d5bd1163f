-- The definitions, in reading order.
pub mod Readings
pub mod Accepts
pub mod Returns
pub mod Faults
pub mod Order
pub mod OrderRead
pub mod Printed
-- What private functions promise
pub mod Steps
