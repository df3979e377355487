pub use Rattle.lines.specs.Ends
pub mod Lines
pub mod Queries
pub mod Places
pub mod Texts
pub mod Replies
