pub mod BisimilarityLaws
pub mod RegroupedRuns
pub mod TableQuestions
pub mod ListingComparison
pub mod ObservedLabels
