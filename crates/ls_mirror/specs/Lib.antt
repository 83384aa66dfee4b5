pub mod Client
pub mod Keys
pub mod Commands
pub mod Refusing
pub mod Tables
pub mod Standing
