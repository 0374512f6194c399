pub mod Cursor
pub mod Appending
