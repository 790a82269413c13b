-- What the theorems on calls and answers as bytes rest on, each file on those above it. Crates `decode` and `encode` use
-- Digits and Refusals too.
--
-- Bytes: lists of bytes
-- Numbers: numbers of eight bytes
-- Digits: the digits of a length, as they are written
-- Lead: the digits at the front of bytes, as they are read
-- Kind: the numbers of calls, a case for each
-- CallRead: how bytes are read, a case for each way
-- RenameRead: how a rename's length and names are read, a case for each way
-- Carried: each call is read back from its bytes
-- Only: nothing but a call is read as one
-- Begins: which bytes some call's bytes begin with, and the longest front that does
-- RenamePlace: the place of a garbled rename
-- Place: the place of garbled bytes
-- Readable: a call's bytes are bytes, and what is read is readable
-- Refusals: refusals and their numbers
-- AnswersBack: each answer is read back, and nothing else is read as one
mod Bytes
mod Numbers
pub mod Digits
mod Lead
mod Kind
mod CallRead
mod RenameRead
mod Carried
mod Only
mod Begins
mod RenamePlace
mod Place
mod Readable
pub mod Refusals
mod AnswersBack
