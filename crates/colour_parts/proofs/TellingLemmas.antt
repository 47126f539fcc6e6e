-- What frames and parts of colour tables tell.
use Rattle.std.proofs.Common.{◌≡◌, ℕ, Bool, true, false, cond, List, [], refl, ap, ◌∙◌}
use Rattle.font_theory.specs.Ways.{CutSays, Way}
use Rattle.font_theory.specs.Parting.{Parting}
use Rattle.colour_tables.specs.NamedGlyphs.{colour_names, layer_names}
use Rattle.font_theory.specs.Content.{glyph_count}
use Rattle.colour_tables.specs.Laws.{IsStored}
use Rattle.font_theory.specs.LayerTables.{layer_way}
use Rattle.font_theory.specs.ColourTables.{DividesColours}
use Rattle.font_theory.specs.PaintTables.{still_way, varying_way}
use Rattle.colour_parts.specs.Telling.{CutsSay, NamesOnCut, NamesOnCuts, PartsFit, PartsOfOneTableFit}
use Rattle.colour_parts.specs.Telling.{PartsTell, WholesAreMade}
use Rattle.font_theory.proofs.ColourTableLemmas.{colour_tables_are}
use Rattle.font_theory.proofs.LayerTableLemmas.{layer_way_is}
use Rattle.font_theory.proofs.PaintTableLemmas.{IsNone, IsSaid, still_way_is, varying_way_is}
use Rattle.font_theory.proofs.WayLemmas.{cut_says, makes_of, part_tells}

-- parts of one table
parts_fit : (D : Parting) → DividesColours D → PartsFit D
parts_fit D are c t parts of =
    are.fewer_fit c (D.frame c t) (D.part c t) parts refl (are.own_fit c t refl) of

pub parts_of_one_fit : PartsOfOneTableFit
parts_of_one_fit = (parts_fit _ colour_tables_are.0, parts_fit _ colour_tables_are.1)

pub parts_tell : PartsTell
parts_tell = (
  part_tells layer_way (λ _. Unit {0}) (λ _ _. Unit {0}) layer_way_is,
  part_tells still_way IsNone IsSaid still_way_is,
  part_tells varying_way IsStored IsSaid varying_way_is,
)

pub cuts_say : CutsSay
cuts_say = (
  cut_says layer_way (λ _. Unit {0}) (λ _ _. Unit {0}) layer_way_is,
  cut_says still_way IsNone IsSaid still_way_is,
  cut_says varying_way IsStored IsSaid varying_way_is,
)

pub wholes_made : WholesAreMade
wholes_made = (
  makes_of layer_way (λ _. Unit {0}) (λ _ _. Unit {0}) layer_way_is,
  makes_of still_way IsNone IsSaid still_way_is,
  makes_of varying_way IsStored IsSaid varying_way_is,
)

-- names on cuts
names_cut : {W X : Type 0} (way : Way W X) (names : X → List ℕ) → names way.nothing ≡ [] → CutSays way
    → NamesOnCut way names
names_cut way names none says c t keeps g d l = ap names ((says c t keeps d).said g l) ∙ by_test (keeps g)
  where
    by_test : (b : Bool) → names (cond b (way.said (glyph_count c) t g) way.nothing)
        ≡ cond b (names (way.said (glyph_count c) t g)) []
    by_test true = refl
    by_test false = none

no_layer_names : layer_names layer_way.nothing ≡ []
unfolding layer_way
no_layer_names = refl

no_still_names : colour_names still_way.nothing ≡ []
unfolding still_way
no_still_names = refl

no_varying_names : colour_names varying_way.nothing ≡ []
unfolding varying_way
no_varying_names = refl

pub names_on_cuts : NamesOnCuts
names_on_cuts = (
  names_cut layer_way layer_names no_layer_names cuts_say.0,
  names_cut still_way colour_names no_still_names cuts_say.1,
  names_cut varying_way colour_names no_varying_names cuts_say.2,
)
