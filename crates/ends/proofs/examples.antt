-- Worked examples, computed on the definitions.
pub mod Demo
