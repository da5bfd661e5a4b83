pub mod LineFormLemmas
