-- `image::checked::Checked::read` meets its contract: an image that is not refused has a header that is not.
use Rattle.image.proofs.Headers.{passed-header}
use Rattle.image.proofs.Accepted.{image-passed}
use Rattle.image.proofs.checked.Checked.read.Goals as goal

pub read-requires : goal.read-requires
read-requires c = passed-header _ (image-passed _ c.requires).header
