mod Records
mod Boths
