-- 02, W2: the order of the picture's records.
pub mod Gathers
pub mod Copies
pub mod OneOrder
pub mod PictureOrder
