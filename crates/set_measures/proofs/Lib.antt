mod Chain
mod Going
mod Values
mod Filled
mod Measured
mod Listed
mod Written
mod Among
