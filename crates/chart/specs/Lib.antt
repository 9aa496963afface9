pub mod Limits
pub mod Chart
pub mod Faults
pub mod Bores
pub mod Kept
pub mod Meanings
