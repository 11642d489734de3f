-- What a reader must believe of strings, settings and refusals, and the laws of it.
pub mod Bits
pub mod Ranges
pub mod StringRule
pub mod SettingLimits
pub mod Refusals
pub mod Results
pub mod laws
