-- A reader that takes bytes in pieces, for any format of images. Read in this order.
pub mod Reading
pub mod Receiving
pub mod Traces
pub mod Sound
pub mod Outcome
pub mod Claim
