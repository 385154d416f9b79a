mod Cuts
mod Reading
mod Said
mod Written
