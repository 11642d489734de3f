-- What internal functions give and require: the terms of their contracts.
pub mod Place
pub mod Sums
pub mod Edits
pub mod Weaving
pub mod Runs
pub mod HashForms
pub mod Strides
pub mod Linking
pub mod MarkerBlocks
