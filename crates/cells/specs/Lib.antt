-- The definitions: the cells of an array (Rows), the chains of cells (Chains), and stores that hold contents, with what a put does to them
-- (Stores).
pub mod Rows
pub mod Chains
pub mod Stores
