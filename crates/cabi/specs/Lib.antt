-- What a reader must believe of the C interface, and the laws of it.
pub mod Packing
pub mod Calls
pub mod ByteWorlds
pub mod ByteTheorem
pub mod laws
