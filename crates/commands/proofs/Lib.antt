-- A listing and an encoding, step by step.
pub mod LinesText
pub mod Sofar
pub mod Flaws
pub mod ByNumber
