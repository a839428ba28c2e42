-- The version of the C surface, as its header has it: HSC_VERSION_NUMBER.
use Rattle.std.specs.Prelude.{ℕ, ◌+◌, ◌*◌}

abbrev pub major : ℕ
major = 0

abbrev pub minor : ℕ
minor = 9

abbrev pub patch : ℕ
patch = 0

-- one number that grows with every version
abbrev pub version : ℕ
version = major * 10000 + minor * 100 + patch
