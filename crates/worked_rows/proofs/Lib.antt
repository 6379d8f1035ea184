mod Lookups
mod Writes
mod Tables
mod Journals
