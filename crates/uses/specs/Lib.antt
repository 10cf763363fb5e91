pub mod PatternMatching
pub mod FaultPositions
pub mod ResumedListings
pub mod TermRuns
