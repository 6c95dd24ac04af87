pub mod Firsts
pub mod Spans
