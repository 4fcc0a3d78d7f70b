mod Drawn
mod Examples
mod Extents
mod Pieces
mod Whole
