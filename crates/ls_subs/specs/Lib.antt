pub mod Subscribed
pub mod Subscription
pub mod Kept
pub mod Standing
pub mod Plans
