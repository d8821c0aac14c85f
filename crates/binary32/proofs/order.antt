-- Facts that the functions' proofs share.
mod Signs
mod Ordered
mod Bounds
