pub mod Orderings
pub mod Searching
