-- What the grid's contracts cite.
pub mod Start
pub mod Ranks
pub mod Holding
