pub mod Drain
pub mod Served
