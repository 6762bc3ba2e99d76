mod Numbers
mod Pieces
mod Reasons
mod Openings
