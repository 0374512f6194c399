pub mod Numbers
pub mod EachKind
pub mod Written
pub mod Back
pub mod Decoded
pub mod Lawful
pub mod Feeds
