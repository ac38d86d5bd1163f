pub mod Held
pub mod Judges
pub mod Index
pub mod Promises
