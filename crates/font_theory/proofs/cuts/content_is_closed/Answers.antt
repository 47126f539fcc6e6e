use Rattle.font_theory.proofs.ContentLemmas.{IsClosed-content}
use Rattle.font_theory.proofs.cuts.content_is_closed.Goals as goal

pub returns : goal.returns
returns c = IsClosed-content
