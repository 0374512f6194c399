-- How lines are spelt and printed.
pub mod Spelling
pub mod Print
pub mod Commands
pub mod Faults
