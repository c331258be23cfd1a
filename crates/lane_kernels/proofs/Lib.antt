pub mod AccessLaws
mod BitLaws
pub mod ConvertLaws
pub mod DivisionLaws
mod FunctionLaws
mod HighLaws
pub mod LaneLaws
pub mod ListLaws
pub mod ShiftLaws
mod NumberLaws
mod ProductLaws
mod SumLaws
