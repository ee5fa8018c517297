pub mod FinMapLemmas
pub mod KeptLemmas
pub mod KeyedLemmas
pub mod OrderLemmas
pub mod PlainLemmas
pub mod TreeLemmas
