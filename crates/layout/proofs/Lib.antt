-- What the proofs of the code share.
mod Pieces
mod Stores
