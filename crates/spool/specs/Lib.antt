pub mod Held
pub mod Turn
pub mod FileConnection
pub mod Pieces
pub mod KeptLines
