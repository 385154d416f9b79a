mod Sets
mod Lasting
mod Readings
mod Keeping
mod Openings
