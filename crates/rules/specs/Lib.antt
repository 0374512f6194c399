-- What the contracts of a day cite: on the state side what each call answers and changes, on the history side what the entries say.
pub mod Figures
pub mod Readings
pub mod Checks
pub mod Effects
pub mod Runs
pub mod Days
pub mod History
pub mod Promise
pub mod Worked
pub mod Calls
