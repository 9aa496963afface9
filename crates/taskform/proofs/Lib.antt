pub mod Held
pub mod Descending
pub mod Spelled
pub mod Limits
pub mod Compiled
pub mod Written
