pub mod Pairs
pub mod Stays
pub mod Counted
pub mod Lanes
pub mod Result
pub mod Extremes
pub mod Gathered
pub mod Within
