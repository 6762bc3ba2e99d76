pub mod Naming
pub mod Machine
pub mod Cleared
pub mod Standing
pub mod Apart
pub mod Snapshot
pub mod Listed
pub mod Law
