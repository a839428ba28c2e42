-- `report::buffer::append` meets its contract: the piece is written at the text's end.
use Rattle.report.proofs.Pieces.{put-appended}
use Rattle.report.proofs.buffer.append.Goals as goal

pub returns : goal.returns
returns c = rw c.copy_over.ensures (put-appended c.args.buffer.now c.args.at c.args.piece.now c.requires)
