pub mod Tables
pub mod Deeds
pub mod Places
pub mod Items
pub mod Sessions
pub mod Watches
pub mod Begun
