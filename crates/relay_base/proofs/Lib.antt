pub mod DestIdLemmas
pub mod Growth
pub mod Turns
pub mod WhiteSpace
pub mod WholeNumbers
