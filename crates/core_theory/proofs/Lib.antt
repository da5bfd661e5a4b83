pub mod CoreLemmas
pub mod EndedLemmas
pub mod ReaderAnswers
pub mod ReaderLemmas
pub mod RecoveredLemmas
