-- The laws of the reader in bytes.
pub mod Padded
pub mod Laid
pub mod Heads
pub mod Split
pub mod Views
pub mod Refusals
pub mod Written
pub mod RoundTrip
