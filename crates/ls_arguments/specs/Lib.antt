pub mod CommandLines
pub mod Parser
