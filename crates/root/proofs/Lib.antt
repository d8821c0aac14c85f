-- The arithmetic that the functions' proofs cite, the theorem `nearest_root`, and closed cases.
mod Squares
mod Isqrt
mod Patterns
mod Rounded
mod Place
mod Signs
mod Gaps
pub mod Closest
mod Examples
