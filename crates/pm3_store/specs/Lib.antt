pub mod Ahead
pub mod Parting
pub mod Standing
pub mod NewStore
pub mod Damage
pub mod Recovering
pub mod Creation
