-- The definitions' examples.
mod Examples
