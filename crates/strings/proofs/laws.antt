-- Laws that rest on a definition which a must-fail edit changes; the others are in specs/laws.
pub mod BitLaws
pub mod RangeLaws
pub mod WriteLaws
pub mod RuleLaws
pub mod PackLaws
pub mod ByteLaws
