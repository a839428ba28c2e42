-- The laws of the definitions in `specs/`, for callers to cite.
pub mod Moving
pub mod Offsets
pub mod Rules
pub mod RoundTrip
pub mod Sampled
pub mod Stamp
