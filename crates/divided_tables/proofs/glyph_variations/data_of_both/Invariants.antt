use Rattle.std.proofs.Common.{◌≡◌, map, if◌then◌else◌, is_some}
use Rattle.font_variations.specs.MadeGvar.{listed_data}
use Rattle.divided_tables.specs.OpenVariations.{data_in}
use Rattle.divided_tables.proofs.glyph_variations.data_of_both.Given as goal

-- the data of the glyphs so far are listed
abbrev pub invariant-loop-g : goal.invariant-loop-g
invariant-loop-g g l = map (λ d. d.now) l.listed.items ≡ listed_data
    (λ h. if is_some ((g.K.Source.content_of l.k).outline h) then data_in l.first h else data_in l.second h) l.g
