pub mod Grammar
pub mod Leaves
pub mod Nodes
pub mod Places
pub mod Precedence
pub mod Selections
pub mod Syntax
pub mod Words
