pub mod ServedLemmas
