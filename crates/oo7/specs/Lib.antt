pub mod Answer
pub mod Checkpoints
pub mod Dumps
pub mod Opening
pub mod Output
pub mod Words
