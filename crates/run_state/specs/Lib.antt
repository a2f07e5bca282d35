pub mod DestSources
pub mod DiskUsers
pub mod RunNotes
pub mod Unsent
