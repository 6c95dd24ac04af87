pub mod Slot
pub mod Buffers
pub mod Laws
pub mod SlotTables
