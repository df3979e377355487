pub mod Digits
pub mod Products
pub mod Quotients
pub mod Exponents
pub mod Rows
