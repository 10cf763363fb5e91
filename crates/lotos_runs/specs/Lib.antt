pub mod Matches
pub mod MatchQuestions
