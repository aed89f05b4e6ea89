pub mod Arrays
pub mod Taken
