-- The definitions.
pub mod Sums
