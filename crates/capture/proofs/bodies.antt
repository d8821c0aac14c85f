pub mod NextBody
