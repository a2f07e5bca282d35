pub mod HandedLemmas
pub mod ProgressLemmas
pub mod AttachLemmas
pub mod RecordLemmas
