pub mod Ends
pub mod Prefixes
