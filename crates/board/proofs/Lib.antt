-- Lemmas on the levels of a board.
pub mod Ordered
