pub mod Addresses
pub mod Admission
pub mod Treads
pub mod TreadLists
pub mod Prefixes
pub mod Layouts
pub mod Named
pub mod Figures
