mod Examples
mod Greatest
mod Inside
mod Tabled
mod Measured
mod Rows
