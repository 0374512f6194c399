-- What the contracts of lines and words cite.
pub mod Words
pub mod Reading
pub mod Lines
