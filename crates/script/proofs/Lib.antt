mod Numerals
mod Parsed
