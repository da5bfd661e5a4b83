pub mod BlockLemmas
pub mod CountLemmas
pub mod DueLemmas
pub mod MarkLemmas
pub mod MomentLemmas
pub mod NameLemmas
pub mod QuietLemmas
