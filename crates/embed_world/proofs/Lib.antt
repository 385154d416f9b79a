mod Held
mod AheadLaws
mod AllLines
