mod BitLists
mod ObjectOrder
mod Bitmaps
mod Indexes
mod PageMaps
mod Scanning
mod StepCases
mod RoundTrips
mod Onward
mod Ahead
mod BodyRoles
mod PageForms
mod PageReads
mod WordBytes
mod ReferencePairs
mod FileForms
mod Faulty
mod SameBits
pub mod SheetsOf
pub mod ReadBounds
