pub mod FaultLemmas
pub mod ReadingLemmas
pub mod WritingLemmas
