mod ArgumentLemmas
mod KeyLemmas
pub mod BagLemmas
pub mod ChoosingLemmas
pub mod JoiningLemmas
pub mod LogicAtOnceLemmas
pub mod RelationLemmas
pub mod SetLemmas
