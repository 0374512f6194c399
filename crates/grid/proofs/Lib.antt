-- The lemmas that the grid's proofs share.
pub mod Levels
pub mod Words
pub mod Answered
pub mod Soundness
