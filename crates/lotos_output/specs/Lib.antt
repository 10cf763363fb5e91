pub mod OutputLines
pub mod AutomatonText
pub mod NamedRuns
pub mod RunNames
pub mod ItemRuns
pub mod WholeOutput
