-- What reading a rule's body and its head rests on.
pub mod Faults
pub mod AtomsMore
pub mod BodyWalk
pub mod KeyPlaces
pub mod NamesHeld
pub mod NamesRead
