-- What a reader must believe of the two ends. From Anchors to RebuilderCall: pieces, states and calls; the outcomes,
-- SheetCall and AnchorSearch: what the exported functions give and leave; Worlds, Statement: lists of calls and demand 3, whose theorem
-- is in proofs/Theorem.
pub mod Anchors
pub mod Segments
pub mod Runs
pub mod Claims
pub mod States
pub mod Soundness
pub mod HolderCall
pub mod RebuilderCall
pub mod HolderOutcome
pub mod RebuilderOutcome
pub mod SheetCall
pub mod AnchorSearch
pub mod Worlds
pub mod Statement
pub mod laws
pub mod code
pub mod examples
