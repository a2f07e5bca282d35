pub mod AnswerLemmas
pub mod NamesLemmas
pub mod ReplayLemmas
