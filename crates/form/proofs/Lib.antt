pub mod Right
pub mod Plain
pub mod Scanned
pub mod Walking
pub mod Checked
pub mod Viewed
pub mod Put
pub mod Spelt
