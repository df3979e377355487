-- The lemmas that the proofs share; those that are `pub` are laws for the crates above.
mod Values
mod Options
pub mod Decimals
pub mod Cuts
pub mod Dotted
mod GroupSums
mod ReadGroups
mod Joining
pub mod HexText
mod ZeroRuns
mod Segments
pub mod RoundTrip
pub mod Reading
pub mod Accepted
