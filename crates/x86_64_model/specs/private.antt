pub mod Tables
pub mod Marks
pub mod MapperCalls
pub mod WalkDown
pub mod Found
