mod Moved
mod PumpAnswers
