-- What a reader must believe of messages (Numbers, Kinds, Questions, Answers, Writing), the laws of it, and the terms of internal contracts.
pub mod Numbers
pub mod Kinds
pub mod Questions
pub mod Answers
pub mod Writing
pub mod laws
pub mod code
