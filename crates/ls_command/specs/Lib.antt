pub mod Command
pub mod Entries
pub mod Stands
