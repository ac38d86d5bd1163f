pub mod Lanes
pub mod Numbers
pub mod Orders
pub mod Chains
pub mod Cycles
pub mod Weaker
pub mod FirstFree
pub mod Links
pub mod Search
pub mod Pick
pub mod Merging
pub mod Items
mod Cases
pub mod Main
