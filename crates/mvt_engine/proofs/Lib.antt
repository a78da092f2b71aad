pub mod AdviceTexts
pub mod ConfirmAnswers
pub mod DumpLists
pub mod DumpTexts
pub mod EngineLemmas
pub mod FieldsLineWalk
