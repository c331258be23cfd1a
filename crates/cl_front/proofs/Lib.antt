pub mod FrontLemmas
pub mod CompileLemmas
pub mod ValidLemmas
pub mod DoesLemmas
pub mod SourceNames
pub mod FaultLemmas
