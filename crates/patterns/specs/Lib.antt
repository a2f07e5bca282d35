pub mod Case
pub mod Pattern
pub mod Compiled
pub mod Replacement
pub mod Left
