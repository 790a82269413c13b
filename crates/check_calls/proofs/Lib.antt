-- Index: a call as code has it (Asked)
mod Asked
