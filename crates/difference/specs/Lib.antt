-- What the contracts of `difference` cite.
pub mod FirstDifference
