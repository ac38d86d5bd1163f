-- Laws and theorems: of the program rules and of rulings (Scan, Rulings), of a request that goes on (Steps, Turns, Locals), of program tables
-- (Tables), the model's side conditions (Bounds), what the lines of a log leave and answer (LogLaws) and what a read takes (Nearest), that the
-- registers and stores hold the objects from operation to operation (Performing), of two machines that go on in the same way (SameReplays,
-- SameHosts), that no reduction acts (Unreduced), and examples (Cases).
pub mod Scan
pub mod Rulings
pub mod Steps
pub mod Turns
pub mod Tables
pub mod Bounds
pub mod Locals
pub mod LogLaws
pub mod Nearest
pub mod Performing
pub mod SameReplays
pub mod SameHosts
pub mod Unreduced
mod Cases
