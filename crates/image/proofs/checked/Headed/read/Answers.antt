-- `image::checked::Headed::read` meets its contract: a header that is not refused is whole.
use native.Mathlib.Omega.{arith}
use Rattle.image.proofs.Headers.{header-passed}
use Rattle.image.proofs.checked.Headed.read.Goals as goal

pub edition-requires : goal.edition-requires
edition-requires c = (header-passed _ c.requires).long

pub number-requires : goal.number-requires
number-requires c = omega (arith, (header-passed _ c.requires).long)

pub number-requires-2 : goal.number-requires-2
number-requires-2 c = omega (arith, (header-passed _ c.requires).long)
