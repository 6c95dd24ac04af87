pub mod TableLemmas
pub mod IdLemmas
pub mod LawLemmas
mod Places
