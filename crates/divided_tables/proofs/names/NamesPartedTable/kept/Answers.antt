use Rattle.std.proofs.Common.{◌≡◌, ◌∙◌, subst}
use Rattle.std.specs.Option.{option_map, option_or}
use Rattle.font_theory.specs.Content.{Content}
use Rattle.font_theory.specs.Parted.{thin_post}
use Rattle.divided_tables.proofs.MadeLemmas.{looked_up, ok_as}
use Rattle.divided_tables.proofs.NameLemmas.{names_kept}
use Rattle.divided_tables.proofs.names.NamesPartedTable.kept.Goals as goal

pub returns-clause-table : goal.returns-clause-table
returns-clause-table g c =
    let K : Content = g.S.Source.content_of c.args.source.now in
    ok_as c.post_without_names.result (λ o e.
    subst (λ t. option_or (option_map (λ v. v.items) o) t ≡ option_map thin_post t)
    (looked_up (λ b. b.now) c.copied.result _ c.copied.ensures.table) e
    ∙ names_kept K) c.post_without_names.ensures.table
