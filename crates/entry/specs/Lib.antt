pub mod Kinds
pub mod Refusals
pub mod Sides
pub mod Windows
