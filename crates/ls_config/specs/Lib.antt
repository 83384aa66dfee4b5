pub mod Items
pub mod Configs
