pub mod Forms
pub mod Reading
pub mod Scanning
pub mod Viewing
pub mod Faults
pub mod Checking
pub mod Putting
