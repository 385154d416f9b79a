mod Listed
mod Listing
mod Noting
