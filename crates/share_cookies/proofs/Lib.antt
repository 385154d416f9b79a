mod Ages
mod Texts
