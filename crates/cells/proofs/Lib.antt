-- Laws and theorems: of the last place where a test holds (Last), of an array's cells (RowLaws), of the walk along a chain (Walks), of stores
-- that hold contents, looked up (Looking) and changed by a put (Putting); and examples (Cases).
pub mod Last
pub mod RowLaws
pub mod Walks
pub mod Looking
pub mod Putting
mod Cases
