pub mod Laws
pub mod Families
