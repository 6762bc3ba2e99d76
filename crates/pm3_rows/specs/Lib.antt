pub mod Scans
pub mod Validated
