pub mod AddingLemmas
pub mod JsonLemmas
pub mod TypingLemmas
pub mod VariableLemmas
