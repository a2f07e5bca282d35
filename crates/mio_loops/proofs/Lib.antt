pub mod LogLemmas
pub mod ReadingLemmas
pub mod RecordLemmas
pub mod ServingLemmas
pub mod ReadOnceLemmas
pub mod LoopLemmas
pub mod ReadTurnLemmas
pub mod StepsLemmas
pub mod ServeLemmas
mod TotalsLemmas
pub mod TurnLemmas
pub mod TurnsLemmas
pub mod WriteLoopLemmas
pub mod WriterLogLemmas
