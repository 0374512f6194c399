-- What the contracts of the program's commands cite.
pub mod Listing
pub mod Encoding
pub mod Requests
