-- The meaning of a board.
pub mod Faults
pub mod Levels
pub mod Book
pub mod Calls
pub mod Sound
pub mod Listing
pub mod Standing
