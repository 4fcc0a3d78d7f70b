mod Followed
mod Noted
