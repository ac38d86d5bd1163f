-- The definitions, in the order of the scope; Redone is a law, which the model's record has as a field.
pub mod Limits
pub mod Instructions
pub mod Processes
pub mod Rules
pub mod Front
pub mod Objects
pub mod Redone
pub mod Logs
pub mod Held
pub mod Instance
