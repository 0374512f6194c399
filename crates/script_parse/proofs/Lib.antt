-- What is read of names and of printed entries.
pub mod Names
pub mod Solid
pub mod Printed
