-- Laws, examples and the theorem that rest on definitions which must-fail edits change.
pub mod laws
pub mod code
pub mod examples
pub mod Theorem
