pub mod Records
pub mod Pictures
