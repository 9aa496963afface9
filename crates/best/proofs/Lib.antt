pub mod Pulling
pub mod Improving
pub mod Relaxing
pub mod Sweeping
pub mod Settling
pub mod Shortening
