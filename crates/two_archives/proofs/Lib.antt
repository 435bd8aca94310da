-- What is known of a reply of `tell_apart`.
pub mod GivenRows
