-- A table of version 0 that is written, piece by piece.
use Rattle.std.proofs.Common.{◌≡◌, ℕ, ◌<◌, ◌≤◌, true, List, [], ◌++◌, length, length-append, Option, ap, ◌∙◌}
use Rattle.std.proofs.Common.{arith}
use Rattle.colour_tables.specs.LayerLists.{layers_have_room}
use Rattle.colour_tables.specs.ListedGlyphs.{listed}
use Rattle.colour_tables.specs.MadeLayers.{base_rows, layer_header, layer_rows, layer_table, layer_total}
use Rattle.colour_tables.specs.declared.layer.Layer.{Layer}
use Rattle.colour_tables.proofs.ByteLemmas.{listed-count}
use Rattle.colour_tables.proofs.LayerLemmas.{bases_size, layers_size}
use Rattle.colour_writers.specs.Inside.{header_of}
use Rattle.colour_writers.proofs.PlanLemmas.{layers_few}
use Rattle.colour_writers.proofs.TreeListLemmas.{both_put}

pub layer_table_put : (n glyphs layers : ℕ) (x : ℕ → Option (List Layer)) (m0 m1 m2 m3 : List ℕ) → m0 ≡ []
    → glyphs ≡ length (listed x 0 n) → layers ≡ layer_total (listed x 0 n)
    → m1 ≡ m0 ++ header_of 0 14 glyphs layers → m2 ≡ m1 ++ base_rows 0 (listed x 0 n)
    → m3 ≡ m2 ++ layer_rows (listed x 0 n) → m3 ≡ layer_table n x
unfolding header_of layer_table
layer_table_put n glyphs layers x m0 m1 m2 m3 e g l a b c =
    let es = listed x 0 n in
    both_put m1 m2 m3 (base_rows 0 es) (layer_rows es) b c
    ∙ ap (λ (m : List ℕ). m ++ (base_rows 0 es ++ layer_rows es)) (a ∙ (λ i. e i ++ header_of 0 14 (g i) (l i)))

pub layer_table_small : (n : ℕ) (x : ℕ → Option (List Layer)) (bytes : List ℕ) → n < 65536
    → layers_have_room n x ≡ true → bytes ≡ layer_table n x → length bytes ≤ 1000000
unfolding layer_table
layer_table_small n x bytes low room e =
    let es = listed x 0 n in
    omega (
      arith,
      ap (λ (b : List ℕ). length b) e,
      length-append (layer_header 0 14 es) (base_rows 0 es ++ layer_rows es),
      length-append (base_rows 0 es) (layer_rows es),
      bases_size 0 es,
      layers_size es,
      listed-count x 0 n,
      layers_few n x room,
      low,
    )
