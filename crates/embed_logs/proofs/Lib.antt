mod Stored
mod Lasting
mod Refused
