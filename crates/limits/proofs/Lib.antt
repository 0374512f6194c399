-- The lemmas on the limits.
pub mod Joined
