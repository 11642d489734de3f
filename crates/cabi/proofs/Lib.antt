-- A law that rests on a definition which a must-fail edit changes, and what the check tries by itself.
pub mod laws
pub mod CallRules
