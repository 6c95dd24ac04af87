pub mod PageLemmas
pub mod Opaque
pub mod ExtentLemmas
pub mod CountLemmas
pub mod WrittenLemmas
pub mod NumberLemmas
