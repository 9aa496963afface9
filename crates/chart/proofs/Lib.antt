pub mod Testing
pub mod Scanning
pub mod Pairing
pub mod Marking
