mod Charted
mod Examples
mod Pieces
mod Tabled
mod Whole
