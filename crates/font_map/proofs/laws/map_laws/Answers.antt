use Rattle.codes.proofs.MapLemmas.{restricted_map, restricted-restricted, restricted-united, united-map}
use Rattle.codes.proofs.MapLemmas.{united-restricted, united-same, united-swapped, united-united}
use Rattle.font_map.proofs.laws.map_laws.Goals as goal

pub returns : goal.returns
returns c =
    record {
      restricted_is_map = restricted_map;
      united_is_map = united-map;
      within_both = restricted-restricted;
      within_either = united-restricted;
      of_a_union = restricted-united;
      itself = united-same;
      in_turn = united-united;
      either_first = united-swapped;
    }
