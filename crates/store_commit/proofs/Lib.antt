pub mod Walks
pub mod Posting
pub mod Bounds
