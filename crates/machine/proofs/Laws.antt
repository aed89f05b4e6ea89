-- Laws of tests, lines, lists, sums and updates, of a use order, and of a set of lanes in one byte.
pub mod Tests
pub mod Lines
pub mod Sets
pub mod Counts
pub mod Sums
pub mod Updates
pub mod Orders
pub mod UseOrders
pub mod LaneBytes
