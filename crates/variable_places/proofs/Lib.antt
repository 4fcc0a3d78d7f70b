mod Examples
mod Lists
mod PartsListed
mod Walked
