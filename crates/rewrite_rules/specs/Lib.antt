pub mod Line
pub mod ReadLine
pub mod Replacement
pub mod Rule
pub mod File
pub mod Faults
pub mod Name
pub mod Laws
