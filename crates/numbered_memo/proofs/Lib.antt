pub mod MemoLemmas
