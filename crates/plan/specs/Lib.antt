-- What the contracts of the plans cite.
pub mod Sessions
pub mod Hours
pub mod Fixed
pub mod Windows
pub mod Announced
pub mod Overlaps
pub mod Texts
