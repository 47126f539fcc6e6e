-- Words of private contracts and of proofs: no public clause names them.
use Rattle.std.specs.Prelude.{ℕ, ◌+◌, ◌-◌, ◌*◌, nat_eq, nat_le, nat_lt, Bool, ◌&&◌, ◌||◌, List, [], ◌∷◌, if◌then◌else◌}
use Rattle.std.specs.Prelude.{is_some}
use Rattle.std.specs.Prelude.{length, slice_index, Option, None, Some}
use Rattle.std.specs.List.{list_all}
use Rattle.std.specs.Option.{option_and_then}
use Rattle.sfnt_bytes.specs.Number.{u16_at}
use Rattle.colour_tables.specs.LayerLists.{bases_of, has_layer_lists, layers_of}
use Rattle.colour_tables.specs.PaintLists.{Clip, base_list_offset, clip_list_offset, clips_of, has_list}
use Rattle.colour_tables.specs.PaintLists.{layer_list_offset}
use Rattle.colour_tables.specs.PaintLists.{roots_of, tree_in, tree_size}
use Rattle.colour_tables.specs.declared.shape.Kind.TheVariants.{ClipBox, Paint}
use Rattle.colour_readers.specs.Trees.{room_left}
use Rattle.colour_tables.specs.declared.layer.Base.{Base}

-- a base glyph is not below one, and below n, and has its layers among so many
abbrev pub is_base : ℕ → ℕ → ℕ → Base → Bool
is_base n layers from b = nat_le from b.glyph && nat_lt b.glyph n && nat_le (b.first + b.count) layers

-- how many layers a table has at most
abbrev pub MAX_ROOM : ℕ
MAX_ROOM = 65535

-- the layers of a base glyph are of glyphs
abbrev pub has_layers : ℕ → List ℕ → Base → Bool
has_layers n t b = list_all (λ layer. nat_lt layer.glyph n) (layers_of t b)

-- how many layers are left of a room after those of base glyphs, none where they are not of glyphs or have no room
abbrev pub layers_left : ℕ → List ℕ → ℕ → List Base → Option ℕ
layers_left n t room [] = Some room
layers_left n t room (b ∷ bs) =
    if has_layers n t b && nat_le b.count room then layers_left n t (room - b.count) bs else None

-- the lists of version 1 lie within a table, and the ClipList has format 1
abbrev pub has_lists : List ℕ → Bool
has_lists t =
    has_list t (base_list_offset t) 0 6 && has_list t (layer_list_offset t) 0 4 && has_list t (clip_list_offset t) 1 7
    && (nat_eq (clip_list_offset t) 0 || nat_eq (slice_index t (clip_list_offset t)) 1)

-- a base glyph is not below one, and below n
abbrev pub is_root : ℕ → ℕ → ℕ → Bool
is_root n from g = nat_le from g && nat_lt g n

-- how many bytes are left of a room after the paints of base glyphs in order
abbrev pub roots_left : ℕ → List ℕ → ℕ → ℕ → List (ℕ × ℕ) → Option ℕ
roots_left n t room from [] = Some room
roots_left n t room from (r ∷ rs) =
    if is_root n from r.0
    then option_and_then (λ left. roots_left n t left (r.0 + 1) rs) (room_left tree_size room (tree_in n t Paint r.1))
    else None

-- a clip is of glyphs not below one, and below n
abbrev pub is_clip : ℕ → ℕ → ℕ → ℕ → Bool
is_clip n from first last = nat_le from first && nat_le first last && nat_lt last n

-- how many bytes are left after the boxes of clips in order, one for each glyph
abbrev pub clips_left : ℕ → List ℕ → ℕ → ℕ → List Clip → Option ℕ
clips_left n t room from [] = Some room
clips_left n t room from (c ∷ cs) =
    if is_clip n from c.first c.last
    then option_and_then (λ left. clips_left n t left (c.last + 1) cs)
    (room_left (λ box. (c.last + 1 - c.first) * tree_size box) room (tree_in n t ClipBox c.place)) else None

-- what a table says of glyphs is in order, is read, and has room
abbrev pub has_room : ℕ → List ℕ → Bool
has_room n t =
    is_some (option_and_then
    (λ layers. option_and_then (λ left. clips_left n t left 0 (clips_of t))
    (roots_left n t (16777215 - 4 * (65535 - layers)) 0 (roots_of t))) (layers_left n t MAX_ROOM (bases_of t)))

-- all that is asked of a table of version 1
abbrev pub has_colours : ℕ → List ℕ → Bool
has_colours n t =
    nat_le 34 (length t) && nat_eq (u16_at t 0) 1 && has_layer_lists n t && has_lists t && has_room n t
