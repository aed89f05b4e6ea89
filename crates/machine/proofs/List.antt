-- If each call pays what it owes, the whole list is as demand 3 says.
pub mod Owes
pub mod Outer
pub mod OuterTie
pub mod OuterRun
pub mod SameFlat
pub mod Joined
