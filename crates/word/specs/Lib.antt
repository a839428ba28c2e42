-- What the contracts of `word` cite.
pub mod Masks
pub mod Part
pub mod Same
pub mod LittleEndian
pub mod TwosComplement
pub mod Layouts
