-- How texts are cut into lines and words, and what words write.
pub mod Compared
pub mod Cuts
pub mod Figures
pub mod Split
