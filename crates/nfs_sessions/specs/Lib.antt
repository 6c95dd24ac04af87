pub mod Id
pub mod Channel
pub mod Sessions
pub mod Laws
pub mod SessionTables
