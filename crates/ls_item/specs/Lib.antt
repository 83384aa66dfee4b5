pub mod Keys
pub mod Changes
pub mod States
pub mod Items
