-- The lemmas that the shelf's proofs share.
pub mod Order
pub mod Gaps
pub mod Answered
