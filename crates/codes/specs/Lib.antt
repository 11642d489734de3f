-- What a reader must believe of codes and hash: Syndrome, Repair, Columns, Hash, Trials, Entries, Counting, Listing, Markers; CountingTheorem names the theorems of 02's CR 11. Place, Sums, Edits, Weaving, HashForms, Strides, Linking and MarkerBlocks are the code's way to them. The rest is laws.
pub mod Syndrome
pub mod Repair
pub mod Columns
pub mod Hash
pub mod Trials
pub mod Entries
pub mod Counting
pub mod CountingTheorem
pub mod Listing
pub mod Markers
pub mod code
pub mod laws
pub mod examples
