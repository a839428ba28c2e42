-- The laws of the calls. `Receivers` has the claim for every image in every cutting.

pub mod Shown
pub mod Ends
pub mod Ready
pub mod Bounds
pub mod Again
pub mod FirstFault
pub mod Driven
pub mod Receivers
