-- Laws that rest on a definition which a must-fail edit changes; the others are in specs/laws.
pub mod TrueAnswers
pub mod Lasting
pub mod CallLists
pub mod Claimed
pub mod RunEnds
