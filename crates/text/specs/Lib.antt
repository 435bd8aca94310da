-- Document 01, "The texts": what every text is made of.
pub mod Cursors
pub mod Lines
pub mod Names
pub mod Numeral
pub mod Print
pub mod Value
