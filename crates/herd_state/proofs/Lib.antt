mod Joining
mod SameNames
