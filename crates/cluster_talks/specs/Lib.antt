pub mod TalkStates
pub mod TalkTexts
pub mod TalkSteps
pub mod Talked
