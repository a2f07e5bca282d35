pub mod SharedSums
pub mod Bearing
pub mod Left
