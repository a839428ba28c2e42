-- The laws of the definitions in `specs/`, for callers to cite.
pub mod Masks
pub mod Part
pub mod Put
pub mod Same
pub mod LittleEndian
pub mod TwosComplement
pub mod Layouts
pub mod Writes
pub mod Replaced
pub mod Branches
