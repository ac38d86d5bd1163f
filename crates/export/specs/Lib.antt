-- The definitions, in reading order.
pub mod Numbers
pub mod Printed
pub mod Version
