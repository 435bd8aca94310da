-- How the input of a run is cut into query texts.
pub mod Cut
pub mod NextCut
