mod Examples
mod Lists
mod Rings
