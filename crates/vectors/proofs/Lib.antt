-- The laws: the sum of a buffer (Sums).
pub mod Sums
