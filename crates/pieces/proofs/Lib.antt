-- The laws of a reader in pieces, for any format. `Theorem` states what a user of it asks for.
pub mod Folds
pub mod Places
pub mod Feeds
pub mod Stretch
pub mod Sound
pub mod Handed
pub mod Receiving
pub mod Pushed
pub mod Answers
pub mod Outcome
pub mod Valid
pub mod Theorem
