-- The checks of a line, the walk over the lines, the names line; what reading accepts, and the text of it; what turns a text back.
pub mod Faults
pub mod Walk
pub mod Names
pub mod Accepted
pub mod Printed
pub mod Numbers
pub mod Bridge
