-- What is promised of the machine, as statements; proofs/Theorems.antt has the theorems.
pub mod Attribution
pub mod Places
pub mod Flat
pub mod Flags
pub mod Demand3
pub mod UseOrders
pub mod SameValues
pub mod Completion
pub mod Potential
pub mod ServeByte
pub mod LoadBeside
pub mod PictureOrder
pub mod NeverFull
