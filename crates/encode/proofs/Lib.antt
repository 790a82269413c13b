-- Puts: writing one part after another
-- Wrote: calls of two numbers and more, by their parts
mod Puts
mod Wrote
