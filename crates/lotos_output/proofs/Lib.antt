pub mod FormattedLines
pub mod AutomatonLines
pub mod SharedTexts
pub mod NamedTexts
pub mod NamedLines
