pub mod Lengths
pub mod Reading
pub mod Rebinding
pub mod Turns
pub mod Queues
pub mod Moving
pub mod Firsts
pub mod GivingBack
