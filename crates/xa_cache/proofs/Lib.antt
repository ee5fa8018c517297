pub mod BodyLemmas
