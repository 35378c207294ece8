pub mod Answering
pub mod Polls
pub mod Refusing
pub mod UnderWay
