-- The machine before W6, and how it compares with the machine of today.
pub mod Control
pub mod Stores
pub mod Corruption
pub mod Change
pub mod Steps
pub mod Settle
pub mod Calls
pub mod Tape
pub mod Same
pub mod Table
