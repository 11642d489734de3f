-- What internal functions give and require, the terms of their contracts; and laws for the proofs of functions.
pub mod Window
pub mod AnchorSearchLaws
pub mod StateCode
pub mod SoundCode
pub mod SoundLaws
pub mod HolderParts
pub mod RebuilderParts
pub mod RebuilderCodeLaws
pub mod RebuilderCallLaws
