-- Document 01's bytes: the snapshot of a state, and an event.
pub mod Places
pub mod Widths
pub mod Snapshots
pub mod FormedBytes
pub mod EventBytes
pub mod Split
