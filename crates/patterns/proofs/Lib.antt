pub mod PatternLemmas
pub mod Steps
