-- The definitions that the contracts cite.
pub mod Digits
pub mod Decimal
pub mod Cut
pub mod Chain
pub mod Hexadecimal
pub mod Ipv4
pub mod Groups
pub mod Ipv6
pub mod Ipv6Text
pub mod Writings
