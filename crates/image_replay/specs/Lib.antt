-- Document 01's replay of an image.
pub mod Replays
