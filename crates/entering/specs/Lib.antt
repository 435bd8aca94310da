-- A query laid in rows, the words of its lines, and the variables that lines share.
pub mod Agree
pub mod Laid
pub mod Left
pub mod Showing
pub mod Worded
