pub mod Lines
pub mod Offers
pub mod Replies
pub mod Serving
pub mod Feeding
