pub mod Outcomes
pub mod Calls
pub mod UnknownGates
pub mod UnknownNames
pub mod Interfaces
pub mod QuestionParts
pub mod RefusalCauses
pub mod Rejections
