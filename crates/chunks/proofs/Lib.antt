-- The laws of the turns.
pub mod Turning
pub mod HeaderTurns
pub mod Taken
pub mod EventTurns
pub mod StretchTurns
pub mod PassTurns
