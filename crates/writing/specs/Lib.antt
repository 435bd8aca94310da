-- What writing to a buffer leaves in it.
pub mod Wrote
