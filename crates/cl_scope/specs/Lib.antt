pub mod View
pub mod Callees
pub mod Walk
pub mod Declarators
pub mod Signatures
