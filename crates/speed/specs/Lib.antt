pub mod Codes
pub mod Shuffled
pub mod Reading
