-- Laws of the definitions, for proofs.
pub mod FieldLaws
pub mod SettingsLaws
pub mod StringLaws
pub mod PrintLaws
