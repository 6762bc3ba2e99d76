mod Alone
mod CatalogFields
mod EarlierImages
mod Growing
mod HeadBytes
mod HeadLast
mod HeadStands
pub mod OneHead
mod Pieces
pub mod Replacing
mod Rising
