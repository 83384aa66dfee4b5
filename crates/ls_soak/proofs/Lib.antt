pub mod GoodLines
pub mod PrintedLines
pub mod Playing
