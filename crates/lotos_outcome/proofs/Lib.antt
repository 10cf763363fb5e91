pub mod Rejections
pub mod Interfaces
pub mod UnknownGates
pub mod UnknownNames
pub mod SignedLines
