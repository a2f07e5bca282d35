pub mod Lines
pub mod Place
pub mod Laws
pub mod Segments
