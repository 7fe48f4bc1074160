pub mod DeskRules
