-- The glyphs that colours name are glyphs.
use Rattle.std.proofs.Common.{◌≡◌, ℕ, zero, suc, Bool, true, false, cond, eqb, ltb, not, ◌||◌, List, [], ◌∷◌, ◌++◌}
use Rattle.std.proofs.Common.{map, Option, None, Some}
use Rattle.std.specs.List.{list_all}
use Rattle.std.proofs.lemmas.Bool.{and_parts, ltb-true}
use Rattle.sfnt_bytes.specs.Number.{u16_at}
use Rattle.colour_tables.specs.ListedGlyphs.{AreBelow}
use Rattle.colour_tables.specs.LayerLists.{are_layers}
use Rattle.colour_tables.specs.NamedGlyphs.{forest_names, layer_names, named_by}
use Rattle.colour_tables.specs.PaintLists.{layer_places_of, tree_in}
use Rattle.colour_tables.specs.Paints.{Bare, Forest, MAX_DEPTH, Tree, With, kinds_below, names_glyph, with_tree}
use Rattle.colour_tables.specs.declared.layer.Layer.{Layer}
use Rattle.colour_tables.specs.declared.shape.Kind.{Kind}
use Rattle.colour_tables.specs.declared.shape.Kind.TheVariants.{Affine, ClipBox, ColorLine, Paint}
use Rattle.colour_tables.proofs.ForestLemmas.{Formed}
use Rattle.colour_tables.proofs.FormedLemmas.{tree-formed}
use Rattle.colour_tables.proofs.GlyphLemmas.{below-append}

named-glyphs : (n : ℕ) (k : Kind) (first : ℕ) (rest : List ℕ) → names_glyph n k first rest ≡ true
    → AreBelow n (named_by k first rest)
named-glyphs n Paint first rest t = by_test (eqb first 10 || eqb first 11) t
  where
    by_test : (b : Bool) → (not b || ltb (u16_at rest 0) n) ≡ true → AreBelow n (cond b (u16_at rest 0 ∷ []) [])
    by_test true t = (ltb-true (u16_at rest 0) n t, tt)
    by_test false t = tt
named-glyphs n (ColorLine stop) first rest t = tt
named-glyphs n (Affine more) first rest t = tt
named-glyphs n ClipBox first rest t = tt

forest-glyphs : (n d : ℕ) (ks : List Kind) (f : Forest) → Formed n d ks f → AreBelow n (forest_names ks f)
forest-glyphs n d ks Bare e = tt
forest-glyphs n d [] (With s first rest below after) e = absurd e
forest-glyphs n zero (k ∷ ks) (With s first rest below after) e = absurd e
forest-glyphs n (suc d) (k ∷ ks) (With s first rest below after) e =
    let own = named_by k first rest in
    let under = forest_names (kinds_below s rest) below in
    below-append n (own ++ under) (forest_names ks after)
    (below-append n own under (named-glyphs n k first rest e.0.named)
    (forest-glyphs n d (kinds_below s rest) below e.1))
    (forest-glyphs n (suc d) ks after e.2)

pub tree-glyphs : (n : ℕ) (k : Kind) (t : List ℕ) (at : ℕ) (tree : Tree) → tree_in n t k at ≡ Some tree
    → AreBelow n (forest_names (k ∷ []) (with_tree tree Bare))
unfolding tree_in
tree-glyphs n k t at tree e =
    forest-glyphs n MAX_DEPTH (k ∷ []) (with_tree tree Bare)
    (tree-formed n t (layer_places_of t) MAX_DEPTH at k tree e)

pub layer-glyphs : (n : ℕ) (layers : Option (List Layer)) → are_layers n layers ≡ true
    → AreBelow n (layer_names layers)
layer-glyphs n None t = tt
layer-glyphs n (Some ls) t = each ls t
  where
    each : (ls : List Layer) → list_all (λ layer. ltb layer.glyph n) ls ≡ true
        → AreBelow n (map (λ layer. layer.glyph) ls)
    each [] t = tt
    each (l ∷ ls) t = let both = and_parts (ltb l.glyph n) _ t in (ltb-true l.glyph n both.0, each ls both.1)
