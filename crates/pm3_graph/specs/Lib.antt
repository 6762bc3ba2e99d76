pub mod Operation
pub mod Frame
pub mod StepLaws
