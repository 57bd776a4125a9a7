pub mod RootNames
pub mod Late
pub mod WholeRules
pub mod RuleLists
pub mod WholePrograms
