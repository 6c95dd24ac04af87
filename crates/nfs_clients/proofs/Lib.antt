pub mod Terms
pub mod Members
pub mod Changes
pub mod Rows
pub mod FiledLemmas
pub mod OwnerLemmas
pub mod IndexLemmas
pub mod Once
