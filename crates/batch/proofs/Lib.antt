pub mod Batches
pub mod Cuts
