pub mod Wholes
pub mod Refusing
