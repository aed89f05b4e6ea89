-- A store that is not corrupt stays so, and its arrays keep their lengths; completions and operations begun are counted.
pub mod Shape
pub mod Sound
pub mod Posts
pub mod KeepsLane
pub mod KeepsBegun
pub mod KeepsStore
pub mod KeepsServe
pub mod KeepsReturn
pub mod KeepsDeliver
pub mod KeepsBegin
pub mod KeepsOpen
pub mod Keeps
pub mod KeepsRepeat
pub mod KeepsShape
pub mod ShapeKeeps
pub mod SizedKeeps
pub mod Counts
