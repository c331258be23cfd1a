pub mod Conditions
pub mod Forms
pub mod Front
pub mod Law
pub mod ScalarForm
pub mod Typed
