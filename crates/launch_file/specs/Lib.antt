pub mod Numbers
pub mod Keys
pub mod Texts
pub mod Values
pub mod Refusals
pub mod ValueViews
pub mod Binding
pub mod NeedsView
