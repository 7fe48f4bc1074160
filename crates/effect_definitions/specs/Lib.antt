pub mod StateEffects
pub mod JournalEffects
pub mod Theorems
pub mod SignOn
pub mod Partial
