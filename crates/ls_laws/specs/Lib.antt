pub mod Alone
pub mod Budgets
pub mod Rounds
pub mod Streams
