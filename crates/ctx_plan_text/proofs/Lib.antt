pub mod Behind
pub mod Cells
pub mod Distinct
pub mod Inlines
pub mod Meant
