mod Called
mod LogCalls
