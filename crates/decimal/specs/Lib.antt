pub mod Refusals
pub mod Operand
pub mod Shortest
pub mod Arithmetic
pub mod Answers
pub mod Reading
