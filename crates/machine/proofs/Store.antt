-- A store with its bounds, lengths and every block's invariant stays so.
pub mod Consistent
pub mod ConsistentLane
pub mod ConsistentMove
pub mod ConsistentOpen
pub mod ConsistentBegin
pub mod ServeBounds
pub mod ConsistentServe
pub mod ConsistentReturn
pub mod ConsistentDeliver
pub mod ConsistentSettle
pub mod ConsistentQuiet
pub mod OrderOfMemory
pub mod SameOperations
pub mod ServeByte
pub mod LoadBeside
