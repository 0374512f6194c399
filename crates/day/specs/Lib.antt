-- What the contracts of a script that is carried out cite.
pub mod Boards
pub mod Stops
