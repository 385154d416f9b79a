mod Links
mod OfLog
mod Boots
mod Telling
mod Unheard
