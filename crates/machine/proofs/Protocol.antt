-- Each move of one block keeps the invariant.
pub mod BlockState
pub mod Moves
pub mod Invariant
pub mod Chains
pub mod Directories
pub mod LaneMoves
pub mod LaneMovesBegin
pub mod LaneMovesDeliver
pub mod MemoryMoves
pub mod MemoryReturn
pub mod MemoryClose
pub mod MemoryServe
pub mod BlockQuiet
