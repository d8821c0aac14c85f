-- Worked cases of the definitions.
mod Examples
