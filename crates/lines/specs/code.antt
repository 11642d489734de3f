-- What internal functions give: the terms of their contracts.
pub mod Readings
