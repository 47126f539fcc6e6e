use Rattle.sfnt_bytes.specs.Directory.{slot_at}
use Rattle.std.proofs.Common.{◌≡◌, ℕ, ◌+◌, ◌*◌, length, length-append, ap, subst, ◌∙◌, arith}
use Rattle.std.specs.Option.{option_map_or}
use Rattle.sfnt_bytes.specs.declared.tag.TheConstants.{ALL_SLOTS}
use Rattle.font_theory.specs.Bytes.{padded}
use Rattle.font_theory.specs.Content.{Content}
use Rattle.font_theory.specs.File.{Writing, file, writing_of}
use Rattle.font_theory.proofs.SizeLemmas.{length-file}
use Rattle.font_write.specs.Parts.{bodies_to, bytes_at, count_to, table_at}
use Rattle.font_write.proofs.MeasureLemmas.{with_record-parts}
use Rattle.font_write.proofs.PartLemmas.{bodies_more, bodies_start, count_more, count_start, length_file}
use Rattle.font_write.proofs.size.counted_size.Goals as goal

pub loop-place-init : goal.loop-place-init
loop-place-init g c =
    let writing : Writing = writing_of c.args.profile in
    let K : Content = g.S.Source.content_of c.args.source.now in
    record { exact = omega (arith, count_start writing K, ap length (bodies_start writing K)); small = omega arith }

pub overflow_add-bytes : goal.overflow_add-bytes
overflow_add-bytes g c = omega (arith, c.loop-place.invariant.small, c.slot_size-bytes.ensures.small)

pub loop-place-preserved : goal.loop-place-preserved
loop-place-preserved g c =
    let writing : Writing = writing_of c.args.profile in
    let K : Content = g.S.Source.content_of c.args.source.now in
    let n : ℕ = c.loop-place.place in
    let same = ap (λ (slot : ℕ). option_map_or (λ bytes. 16 + length (padded bytes)) (table_at writing K slot) 0)
    c.slot_in.ensures.slot in
    record {
      exact = omega (
        arith,
        same,
        c.loop-place.invariant.exact,
        c.slot_size-bytes.ensures.exact,
        with_record-parts (table_at writing K (slot_at n)),
        count_more writing K n,
        ap length (bodies_more writing K n),
        length-append (bodies_to writing K n) (padded (bytes_at writing K (slot_at n))),
      );
      small = omega (arith, c.loop-place.invariant.small, c.slot_size-bytes.ensures.small);
    }

pub returns : goal.returns
returns g c =
    let writing : Writing = writing_of c.args.profile in
    let K : Content = g.S.Source.content_of c.args.source.now in
    let all : c.loop-place.place ≡ ALL_SLOTS = omega arith in
    let exact : c.loop-place.bytes ≡ 12 + 16 * count_to writing K ALL_SLOTS + length (bodies_to writing K ALL_SLOTS) =
    subst (λ (n : ℕ). c.loop-place.bytes ≡ 12 + 16 * count_to writing K n + length (bodies_to writing K n)) all
    c.loop-place.invariant.exact in
    let written : c.loop-place.bytes ≡ length (file writing K) = omega (arith, exact, length_file writing K) in
    record {
      counts = c.requires;
      bytes = written ∙ length-file writing K c.recall_laws.ensures.writable;
      written = written;
    }
