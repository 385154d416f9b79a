mod Claims
mod Opened
mod Porting
mod Telling
mod Unheard
