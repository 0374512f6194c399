-- What the ladder's contracts cite.
pub mod Sides
pub mod Better
pub mod Records
pub mod Counts
pub mod OneSide
pub mod Standing
pub mod Holding
