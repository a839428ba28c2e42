-- The theory of a snapshot table over a row of events, for any system. Read in this order.
pub mod System
pub mod Image
pub mod Events
pub mod Counts
pub mod Replay
pub mod Mend
pub mod EventsRun
pub mod Claim
pub mod Traces
