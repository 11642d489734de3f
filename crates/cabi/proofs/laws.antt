-- Laws that rest on a definition which a must-fail edit changes.
pub mod FreshHolder
