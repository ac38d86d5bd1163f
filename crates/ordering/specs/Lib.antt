pub mod Merge
pub mod Order
pub mod Before
pub mod Whole
pub mod FirstFree
pub mod Positions
pub mod Heads
