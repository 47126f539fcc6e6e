use Rattle.std.proofs.Common.{◌∙◌, ap, Some, sym}
use Rattle.std.specs.Option.{option_map}
use Rattle.colour_tables.specs.LayerLists.{layers_of}
use Rattle.colour_readers.proofs.TableLemmas.{layers_by}
use Rattle.colour_readers.proofs.open_colours.layers_of.Goals as goal

pub returns-in-Some : goal.returns-in-Some
returns-in-Some c =
    ap Some c.of.ensures ∙ ap (option_map (layers_of c.args.t.now)) (sym c.in-Some.is)
    ∙ layers_by c.args.t.now c.args.g _ c.base_of.ensures

pub returns-in-None : goal.returns-in-None
returns-in-None c =
    ap (option_map (layers_of c.args.t.now)) (sym c.in-None.is) ∙ layers_by c.args.t.now c.args.g _ c.base_of.ensures
