use Rattle.std.proofs.Common.{◌∙◌, ◌∷◌, [], ℕ, List, ap, not}
use Rattle.std.specs.Str.{bytes_eq}
use Rattle.divided_tables.proofs.FourLemmas.{some_of_four}
use Rattle.divided_tables.proofs.metrics.Four.has_some.Goals as goal

pub returns : goal.returns
returns c =
    let own : List ℕ = c.args.self.now.first ∷ c.args.self.now.second ∷ c.args.self.now.third ∷ c.args.self.now.fourth
    ∷ [] in
    ap not (c.is_same.ensures ∙ ap (bytes_eq own) c.none.ensures)
    ∙ some_of_four c.args.self.now.first c.args.self.now.second c.args.self.now.third c.args.self.now.fourth
