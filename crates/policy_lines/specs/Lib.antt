-- What the steps of reading a policy's line give.
pub mod Value
