pub mod Accepting
pub mod Seen
pub mod Tally
pub mod Left
pub mod Readings
pub mod Looking
