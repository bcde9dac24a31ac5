pub mod Served
pub mod FlushReplies
