pub mod Ascii
pub mod White
pub mod WholeNumber
pub mod Memory
pub mod DestIds
pub mod Laws
