pub mod Names
pub mod Marks
pub mod CodeMarks
pub mod BarrierPoints
