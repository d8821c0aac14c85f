-- What a byte of an argument does, and the case that is computed.
mod Digits
mod Examples
