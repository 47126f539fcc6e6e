use Rattle.std.proofs.Common.{◌≡◌, ◌-◌, find}
use Rattle.std.specs.List.{range_with_len}
use Rattle.variation_sequences.specs.Encoding.{encoding_record_count, is_sequence_record}
use Rattle.variation_sequences.proofs.encoding.first_record.Given as goal

abbrev pub invariant-loop-k : goal.invariant-loop-k
invariant-loop-k l = find (is_sequence_record l.cmap) (range_with_len 0 (encoding_record_count l.cmap))
    ≡ find (is_sequence_record l.cmap) (range_with_len l.k (l.count - l.k))
