-- `draw::check::draw_verdict` meets its contract: a snapshot that refusal 9 leaves has its size.
use Rattle.refusal.proofs.Answers.{accepted-answer}
use Rattle.draw.proofs.Accepted.{sizes-passed}
use Rattle.draw.proofs.check.draw_verdict.Goals as goal

pub form_verdict-requires : goal.form_verdict-requires
form_verdict-requires c = (sizes-passed _ _ _ _ (accepted-answer _ _ c.sizes_verdict.ensures c.in_ok-sizes_verdict.was)).0
