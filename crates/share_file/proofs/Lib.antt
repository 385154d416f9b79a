mod Reading
mod Adding
mod Parts
mod Bases
mod Keeping
mod Tails
mod Ending
mod Restarting
