mod Within
mod Carrying
pub mod Moving
mod Recording
mod Crashing
mod Roots
mod Imagined
mod Fresh
mod Pictures
mod Opening
