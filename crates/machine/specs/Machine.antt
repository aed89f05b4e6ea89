-- Document 01's machine with document 02's requests, in 01's order.
pub mod Parts
pub mod Begun
pub mod Corruption
pub mod Change
pub mod Begin
pub mod Serve
pub mod LaneBytes
pub mod Return
pub mod Deliver
pub mod Settle
pub mod Sized
pub mod Fill
pub mod Picture
pub mod Tape
pub mod Text
pub mod Calls
