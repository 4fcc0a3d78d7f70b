mod Adding
mod Judging
mod Limits
mod Reading
mod Few
