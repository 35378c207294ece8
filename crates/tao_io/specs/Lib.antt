pub mod Examples
pub mod LineParts
pub mod LineReader
pub mod Lines
pub mod Plan
pub mod Sink
pub mod Standard
