mod Stays
mod Words
