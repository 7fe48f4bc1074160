pub mod StateRules
