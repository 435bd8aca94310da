-- Facts about the definitions of specs/.
pub mod FieldsRead
pub mod FirstFault
pub mod Limits
pub mod LineRead
pub mod Pad
pub mod Tags
pub mod TermFields
pub mod Terms
pub mod TermsRead
pub mod UpTo
pub mod Values
pub mod Variables
pub mod Misfit
pub mod Same
pub mod LaidTerms
pub mod LineValues
-- What is printed is read back, and what is read was printed.
pub mod Printed
pub mod Spaced
pub mod ReadLines
