-- Facts that the functions' proofs share.
mod Placing
mod UnsignedPlaces
mod SignedPlaces
