-- Tables of names in the words of divided tables.
use Rattle.std.proofs.Common.{◌≡◌, ℕ, List, [], nat_lt, Option, None, Some, refl, sym}
use Rattle.std.specs.Option.{option_map, option_map_or}
use Rattle.sfnt_bytes.specs.declared.tag.TheConstants.{POST}
use Rattle.font_theory.specs.Content.{Content, glyph_count}
use Rattle.font_theory.specs.Kinds.{reduced}
use Rattle.font_theory.specs.Parted.{nameless, thin_post}
use Rattle.font_theory.specs.Parting.{Tables, context, frames, parts_of}
use Rattle.font_theory.proofs.ContentLemmas.{nothing_either}
use Rattle.divided_tables.specs.PartedTable.{ArePartsIn, alone, no_parts}

no_name : (c : Tables) (g : ℕ) → parts_of (alone nameless) c POST g ≡ []
unfolding parts_of nameless
no_name c g = nothing_either (nat_lt g (glyph_count c)) _ (go (c POST))
  where
    go : (o : Option (List ℕ)) → option_map_or (λ t. nameless.part (context c) t g) o [] ≡ []
    go None = refl
    go (Some t) = refl

pub names_parts_are : (c : Tables) (n : ℕ) → n ≡ glyph_count c → ArePartsIn nameless POST c (no_parts n)
names_parts_are c n is = record { count_is = is; parts_are = λ g low. sym (no_name c g) }

pub names_framed : (c : Tables) → option_map thin_post (c POST) ≡ frames (alone nameless) c POST
unfolding frames nameless
names_framed c = refl

pub names_kept : (K : Content) → option_map thin_post (K.copied POST) ≡ (reduced (alone nameless) K).copied POST
unfolding reduced nameless
names_kept K = refl
