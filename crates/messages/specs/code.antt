-- The terms in which internal functions say what they give, with laws for their proofs.
pub mod Reading
