pub mod RoleLemmas
pub mod FeedLemmas
pub mod PourLemmas
pub mod WeaveLemmas
pub mod EndLemmas
