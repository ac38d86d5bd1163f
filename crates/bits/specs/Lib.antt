-- The definitions: the bits of a number (Bits).
pub mod Bits
