pub mod Outcome
pub mod Numbers
pub mod Words
pub mod Printed
pub mod Law
pub mod Messages
