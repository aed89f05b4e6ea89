-- What must be believed is in the folder machine; what is promised of it, in claims; worked cases of it, in table.
pub mod Machine
pub mod Claims
pub mod Table
