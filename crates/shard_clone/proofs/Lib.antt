mod Places
mod Rows
mod Uncloned
