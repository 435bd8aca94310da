pub mod Buffer
pub mod Listing
pub mod HoldsLabels
