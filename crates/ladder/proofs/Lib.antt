-- The lemmas that the ladder's proofs share.
pub mod Shelved
pub mod Answered
pub mod Soundness
