-- Laws of the definitions, for proofs.
pub mod PackingLaws
pub mod HolderBytesLaws
pub mod RebuilderBytesLaws
pub mod CarriedLaws
pub mod KeptLaws
pub mod ByteWorldLaws
pub mod OnBytes
