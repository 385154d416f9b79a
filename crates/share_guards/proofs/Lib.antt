mod Arriving
mod Strangers
mod Unknown
