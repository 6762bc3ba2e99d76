pub mod PageBytes
pub mod HeadForm
pub mod EmptyFile
pub mod CatalogBytes
pub mod Loading
pub mod Writing
pub mod HeadLaws
