-- The machine's answers beside those that the documents want, row by row.
pub mod Table
