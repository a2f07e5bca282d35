pub mod Kept
pub mod Ports
pub mod ReloadLine
