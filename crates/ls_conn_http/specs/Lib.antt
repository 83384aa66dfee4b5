pub mod Taking
pub mod Bodies
pub mod Reading
pub mod Coming
pub mod Replying
pub mod Opening
pub mod Serving
pub mod Firsts
