pub mod Groups
pub mod Lives
pub mod Taking
pub mod Cut
pub mod Sights
pub mod Speaking
