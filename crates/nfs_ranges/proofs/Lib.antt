pub mod AnswerLemmas
pub mod BlockLemmas
pub mod CanonicalLemmas
pub mod ClashLemmas
pub mod EditLemmas
pub mod GroupLemmas
pub mod HolderLemmas
pub mod KeptLemmas
pub mod KindLemmas
pub mod LayLemmas
pub mod ListedLemmas
pub mod ListingLemmas
pub mod OwnerLemmas
pub mod PlaceLemmas
pub mod RiseLemmas
pub mod ToldLemmas
mod SpanLemmas
