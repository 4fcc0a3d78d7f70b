pub mod First
pub mod Mending
pub mod Misspellings
pub mod MissingTokens
