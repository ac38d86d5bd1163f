-- Laws of bits: at every place (Places), and how the carry of a sum compares two numbers (Carries); and examples (Cases).
pub mod Places
pub mod Carries
mod Cases
