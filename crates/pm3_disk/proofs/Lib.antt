pub mod Contents
mod Crashed
pub mod Leaving
pub mod OnlyReading
mod Overwriting
pub mod Passing
mod Recorded
mod Tearing
