-- A call is, for each block, one of these moves or nothing.
pub mod Queued
pub mod Searches
pub mod SeenBegin
pub mod SeenDeliver
pub mod Project
pub mod Flats
