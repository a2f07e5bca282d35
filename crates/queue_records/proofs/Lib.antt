pub mod Entering
pub mod Places
pub mod LeftOut
pub mod Meeting
pub mod Numbering
pub mod RecordsMet
