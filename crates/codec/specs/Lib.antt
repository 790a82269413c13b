pub mod Numbers
pub mod Lengths
pub mod CallBytes
pub mod AnswerBytes
pub mod Promises
