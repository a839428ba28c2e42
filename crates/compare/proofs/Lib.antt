-- Laws of the definitions of `compare`.
mod Events
mod Differing
pub mod Exact
pub mod Unique
pub mod Fit
pub mod Symmetry
pub mod Stamps
pub mod Nights
mod Checked
mod Answered
pub mod Bounds
pub mod Remaining
