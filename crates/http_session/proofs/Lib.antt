mod Examples
pub mod FieldLemmas
pub mod Growth
pub mod Heads
pub mod ItemLemmas
pub mod Items
pub mod Lengths
pub mod ListLemmas
pub mod AnswerWriterLemmas
pub mod Pieces
pub mod Talks
pub mod Texts
pub mod TurnLemmas
pub mod Unique
