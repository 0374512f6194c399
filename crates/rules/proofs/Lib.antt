-- The lemmas from which the promise follows, from the lowest up.
pub mod Sides
pub mod Boards
pub mod Past
pub mod Bests
pub mod Tested
pub mod Places
pub mod Keeps
pub mod Grounds
pub mod Tables
pub mod Carried
pub mod Steps
pub mod Whole
pub mod Contracts
pub mod Examples
