-- The laws of replay and mending, for any system. `Theorem` states what a user of them asks for.
pub mod Image
pub mod Changed
pub mod Start
pub mod Run
pub mod Counts
pub mod Replay
pub mod Rest
pub mod Mend
pub mod Loops
pub mod Built
pub mod Mending
pub mod Claim
pub mod Theorem
pub mod EventsRun
pub mod Scan
pub mod Iterations
