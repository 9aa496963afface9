pub mod Words
pub mod Spelling
pub mod Gathering
pub mod Descent
pub mod Faults
pub mod Compiling
pub mod Theorems
