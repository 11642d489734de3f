-- Worked examples, computed on the definitions.
pub mod Marked
pub mod Samples
