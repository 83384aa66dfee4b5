pub mod CommandMode
pub mod ClientKeys
pub mod DistinctMode
pub mod RawMode
pub mod Lawful
pub mod ClientTables
pub mod Ranges
pub mod Truths
