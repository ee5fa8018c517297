pub mod DocumentLemmas
pub mod EntryLemmas
