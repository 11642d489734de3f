-- Laws of the definitions, for proofs.
pub mod StoreLaws
pub mod Tests
pub mod ResultLaws
pub mod SettingLaws
