-- Laws of the definitions of `draw`.
pub mod Accepted
pub mod Bounds
pub mod Left
pub mod Joined
pub mod Night
