-- Laws of the first difference, and the proofs of the contracts.
pub mod Places
