pub mod Reading
pub mod Rules
pub mod RuleLists
pub mod Drafts
