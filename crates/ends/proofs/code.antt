-- Laws for the proofs of functions that rest on a definition which a must-fail edit changes; the others are in specs/code.
pub mod HolderCodeLaws
pub mod SheetCallLaws
