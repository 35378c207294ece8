mod Agreeing
mod Gained
mod Learned
mod Merged
mod Own
mod Prefixes
mod Together
