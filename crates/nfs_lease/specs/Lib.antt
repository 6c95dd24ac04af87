pub mod Renewals
pub mod Queue
