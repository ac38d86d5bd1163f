-- What private functions promise: the rows themselves are the model's.
pub mod Steps
