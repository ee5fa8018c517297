pub mod NumberLemmas
pub mod FrontLemmas
pub mod SizeLemmas
pub mod LawLemmas
pub mod TrimLemmas
pub mod OpenHeadLemmas
pub mod TableLemmas
pub mod ChangingLemmas
