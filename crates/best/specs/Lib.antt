pub mod Arcs
pub mod Kinds
pub mod Paths
pub mod Sweeps
pub mod Theorems
pub mod Faults
pub mod Relaxed
