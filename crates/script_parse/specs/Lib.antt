-- What the contracts of a line that is read cite.
pub mod Entries
