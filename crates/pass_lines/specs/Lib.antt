pub mod Pass
pub mod MomentText
