pub mod Tests
pub mod Maps
pub mod Lists
pub mod Firsts
pub mod Chains
pub mod Scans
pub mod Searches
