-- The laws that the functions' proofs cite: the log lines linked by request and number (Links), the claims held against them (Claimed).
pub mod Places
pub mod Links
pub mod Claimed
pub mod Counting
pub mod Replaying
pub mod Looking
pub mod Rows
pub mod Judging
pub mod Items
