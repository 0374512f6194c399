-- The lemmas of the calls: one turn of a run, and opening.
pub mod Turns
pub mod Openings
