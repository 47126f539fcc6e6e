use Rattle.std.proofs.Common.{option_copied}
use Rattle.font_subset.specs.KeptGlyphs.{glyphs_wanted}
use Rattle.font_subset.proofs.selection.mark_kept.Goals as goal

pub returns-clause-kept : goal.returns-clause-kept
returns-clause-kept g c = λ codes is. c.in_ok-kept.ensures.kept c.args.kind
    (record { codes = codes; glyphs = glyphs_wanted (option_copied c.args.numbers) }) c.requires.accepted
    (c.mark_roots-roots.ensures.roots codes is)
