pub mod CommandRules
pub mod PatternWords
pub mod Request
pub mod EntryRules
pub mod CommandFaults
