pub mod Appends
pub mod Bodies
pub mod Cuts
pub mod FieldLaws
pub mod LawsLemmas
pub mod Lengths
pub mod Pages
