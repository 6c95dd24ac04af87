pub mod Paced
pub mod Laws
pub mod Worked
pub mod Places
pub mod Turns
pub mod Seated
pub mod SeatedWorked
pub mod InTurn
