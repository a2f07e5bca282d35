pub mod EndLemmas
pub mod HeldLemmas
pub mod KeptLemmas
pub mod PipeLemmas
pub mod SendingLemmas
