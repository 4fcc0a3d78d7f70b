pub mod Copying
mod Examples
mod Lists
