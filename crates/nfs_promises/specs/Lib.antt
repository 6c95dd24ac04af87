pub mod Runs
pub mod Calls
pub mod Network
pub mod Locks
pub mod Names
pub mod Bytes
pub mod Permission
pub mod Answers
