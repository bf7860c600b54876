pub mod PartyExamples
pub mod JobExamples
pub mod RunExamples
pub mod SessionExamples
