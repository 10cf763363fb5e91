pub mod Differences
pub mod Comparisons
pub mod BoundedPairs
pub mod CommonLabels
pub mod FoundLines
pub mod PairExploration
