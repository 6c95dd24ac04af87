pub mod Bytes
pub mod Page
pub mod Pages
pub mod Pool
