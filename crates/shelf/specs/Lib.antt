-- What the shelf's contracts cite.
pub mod Order
pub mod Standing
pub mod Calls
