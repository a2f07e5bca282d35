pub mod BatchLemmas
pub mod EndLemmas
pub mod LinesLemmas
pub mod PassLemmas
