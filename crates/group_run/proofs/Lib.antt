pub mod Laws
pub mod LengthLaws
pub mod NodeLaws
pub mod Running
