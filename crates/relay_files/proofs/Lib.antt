pub mod BytesLemmas
pub mod FaultLemmas
pub mod FileLemmas
