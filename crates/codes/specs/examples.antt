-- Worked examples, computed on the definitions.
pub mod CountingSamples
pub mod ListingSamples
pub mod MarkerSamples
