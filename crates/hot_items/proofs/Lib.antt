mod Calls
mod KeyTest
mod Looks
mod Moved
mod SameQueries
