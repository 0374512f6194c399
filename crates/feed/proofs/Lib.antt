pub mod Lists
pub mod Fields
pub mod Shifts
pub mod Finished
pub mod Appended
