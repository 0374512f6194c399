-- The lemmas that the proofs of the plans share.
pub mod Order
pub mod Days
pub mod Apart
pub mod Announcing
pub mod Overlapping
