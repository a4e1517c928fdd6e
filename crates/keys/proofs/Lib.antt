pub mod Writing
pub mod Matching
pub mod Quoting
pub mod Scripts
pub mod Answers
pub mod Cases
