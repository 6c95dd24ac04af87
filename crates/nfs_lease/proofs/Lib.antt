pub mod Latest
pub mod Queue
