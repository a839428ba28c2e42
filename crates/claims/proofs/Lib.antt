-- The claims of `docs/CLAIMS.md`: its three demands, then those of document 02's requests.
pub mod Claims
pub mod Comparing
pub mod Drawing
pub mod Differing
pub mod Resetting
pub mod Receiving
pub mod Masking
pub mod Merging
pub mod Running
