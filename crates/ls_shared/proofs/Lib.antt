mod Items
mod Once
mod Shapes
pub mod Grown
mod Rounds
mod NoCuts
mod Quiet
mod Turning
mod Turned
mod Asking
mod Taken
mod Changing
mod Adds
mod Operations
