-- The `cmap` with variation sequences is read as what was written.
use Rattle.std.proofs.Common.{sym, ap, ◌∙◌}
use Rattle.font_theory.specs.Content.{glyph_count}
use Rattle.font_theory.specs.Parted.{sequences}
use Rattle.font_theory.specs.SequenceTable.{pairs_of_parts, sequence_table}
use Rattle.font_theory.proofs.SequenceCmapLemmas.{accepted_sequenced, maps_sequenced, pairs_of_cmap}
use Rattle.font_theory.proofs.SequenceCmapLemmas as written
use Rattle.font_theory.proofs.SequencePartLemmas.{few_pairs, room_rises}
use Rattle.sequence_parts.specs.SequenceCmap.{SequencesAreRead, SequencesChangeNoMap, TableIsReadBack}

pub no_map_changed : SequencesChangeNoMap
no_map_changed writing asked runs t = record {
  accepted = accepted_sequenced writing asked runs t;
  maps = maps_sequenced writing asked runs t;
  same = λ glyphs. maps_sequenced writing asked runs t glyphs ∙ sym (asked.maps runs glyphs);
}

pub sequences_read : SequencesAreRead
sequences_read = written.sequences_read

pub table_read_back : TableIsReadBack
unfolding sequences
table_read_back writing asked c parts runs of_code fit =
    let n = glyph_count c in
    let ps = pairs_of_parts n parts in
    ap sequence_table (pairs_of_cmap n of_code writing asked runs ps (room_rises n parts fit) (few_pairs ps fit))
