pub mod Turns
pub mod Prints
