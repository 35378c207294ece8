mod Cut
mod Numbers
mod Open
mod Raise
mod Whole
