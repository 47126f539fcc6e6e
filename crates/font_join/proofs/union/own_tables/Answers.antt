use Rattle.std.proofs.Common.{true, false, ◌≡◌, ◌∙◌}
use Rattle.font_join.proofs.union.own_tables.Goals as goal

pub returns-clause-tables : goal.returns-clause-tables
returns-clause-tables g c = λ some. let no : false ≡ true = c.if-divides_tables.ensures ∙ some in cc
