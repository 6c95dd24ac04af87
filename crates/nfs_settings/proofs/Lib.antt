pub mod Keys
pub mod Blank
