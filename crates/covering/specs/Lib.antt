pub mod Free
pub mod Rules
pub mod Views
pub mod Prepared
pub mod Labelled
