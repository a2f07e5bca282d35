pub mod Plan
pub mod Seen
pub mod Route
pub mod Laws
