mod ApartLemmas
pub mod AskedLemmas
mod IndexLemmas
mod KeyLemmas
mod LookLemmas
mod NamedLemmas
mod NamingLemmas
pub mod NodesLemmas
mod OverLemmas
mod RowLemmas
pub mod TimelessLemmas
mod TypeLemmas
