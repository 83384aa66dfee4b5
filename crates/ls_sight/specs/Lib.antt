pub mod Speaking
pub mod Sights
pub mod Cut
