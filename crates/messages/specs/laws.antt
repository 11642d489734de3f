-- Laws of the definitions, for proofs.
pub mod NumberLaws
pub mod KindLaws
pub mod QuestionLaws
pub mod AnswerLaws
pub mod WritingLaws
pub mod RefusalLaws
pub mod BurstSamples
