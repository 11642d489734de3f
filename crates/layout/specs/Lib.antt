-- What a reader must believe of the bytes of states and sheet (docs/LAYOUT.md), and the laws of it.
pub mod Bytes32
pub mod Layout
pub mod Sheet
pub mod laws
