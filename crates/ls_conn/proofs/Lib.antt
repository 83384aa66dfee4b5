pub mod Given
pub mod GoingOn
pub mod Saying
pub mod Sessions
pub mod Opening
pub mod Lasts
pub mod Opened
