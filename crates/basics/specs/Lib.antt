pub mod Choice
pub mod Lists
pub mod Count
pub mod Firsts
pub mod Maps
pub mod Chain
pub mod Scans
