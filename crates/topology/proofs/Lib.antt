pub mod Found
mod Numbers
mod Places
