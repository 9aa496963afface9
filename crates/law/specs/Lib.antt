pub mod Grounds
pub mod Guides
pub mod Searches
pub mod Charts
pub mod Runs
pub mod Law
pub mod Theorems
pub mod Worked
