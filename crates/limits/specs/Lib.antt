-- What the contracts of the limits cite.
pub mod Rounded
pub mod Exact
pub mod Worked
