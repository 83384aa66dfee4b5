pub mod Accept
pub mod Wires
