pub mod AnswerKinds
pub mod Kinds
pub mod Meaning
