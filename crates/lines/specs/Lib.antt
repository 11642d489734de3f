-- What a reader must believe of the demonstration program's text: Fields, SettingsLine, StringLine, Printing. The rest is the terms of internal contracts, laws and worked examples.
pub mod Fields
pub mod SettingsLine
pub mod StringLine
pub mod Printing
pub mod code
pub mod laws
pub mod examples
