-- Request 3's operation: a rule turned into a query text behind the text in a lent buffer.
pub mod Import
pub mod Outcomes
pub mod Translating
