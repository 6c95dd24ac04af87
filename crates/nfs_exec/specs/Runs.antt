pub mod Ops
pub mod Kept
pub mod LockHeld
pub mod Own
pub mod Ended
pub mod NoClashes
pub mod WrittenRun
pub mod OneSession
