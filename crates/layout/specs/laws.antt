-- Laws of the definitions, for proofs.
pub mod Bytes32Laws
pub mod CaseLaws
pub mod LayoutLaws
pub mod SheetLaws
