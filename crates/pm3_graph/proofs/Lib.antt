mod Views
mod Framing
mod Keeping
mod Writing
