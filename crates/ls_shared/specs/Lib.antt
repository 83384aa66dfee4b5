pub mod Offers
pub mod Answers
pub mod Operations
pub mod Asking
pub mod Taking
