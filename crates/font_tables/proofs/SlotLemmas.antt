-- The slots of the required tables are those of their tags.
use Rattle.std.proofs.Common.{◌≡◌, [], ◌∷◌, map, refl}
use Rattle.sfnt_bytes.specs.Directory.{kept_tag}
use Rattle.font_tables.specs.Tables.{cmap_tag, glyf_tag, head_tag, hhea_tag, hmtx_tag, loca_tag, maxp_tag}
use Rattle.font_tables.specs.Tables.{required_tags}

pub record AreSlots : Type 0 where
  pub cmap : kept_tag 1 ≡ cmap_tag
  pub glyf : kept_tag 5 ≡ glyf_tag
  pub head : kept_tag 6 ≡ head_tag
  pub hhea : kept_tag 7 ≡ hhea_tag
  pub hmtx : kept_tag 8 ≡ hmtx_tag
  pub loca : kept_tag 9 ≡ loca_tag
  pub maxp : kept_tag 10 ≡ maxp_tag

pub are_slots : AreSlots
unfolding kept_tag cmap_tag glyf_tag head_tag hhea_tag hmtx_tag loca_tag maxp_tag
are_slots = record { cmap = refl; glyf = refl; head = refl; hhea = refl; hmtx = refl; loca = refl; maxp = refl }

pub required_slots : map kept_tag (1 ∷ 5 ∷ 6 ∷ 7 ∷ 8 ∷ 9 ∷ 10 ∷ []) ≡ required_tags
unfolding required_tags
required_slots = rw (
  are_slots.cmap,
  are_slots.glyf,
  are_slots.head,
  are_slots.hhea,
  are_slots.hmtx,
  are_slots.loca,
  are_slots.maxp,
) refl
