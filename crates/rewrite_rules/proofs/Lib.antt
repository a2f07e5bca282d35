pub mod PartLemmas
pub mod RuleLemmas
pub mod FileLemmas
mod Examples
pub mod Between
