pub mod Rounding
pub mod Kernel
pub mod Exactness
pub mod Homes
pub mod Rising
pub mod Tables
pub mod NamedRows
