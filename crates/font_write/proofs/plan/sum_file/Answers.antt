use Rattle.sfnt_bytes.specs.Directory.{slot_at}
use Rattle.std.proofs.Common.{◌≡◌, ℕ, length, sym, ap, subst, ◌∙◌, arith, length-append}
use Rattle.sfnt_bytes.specs.declared.tag.TheConstants.{ALL_SLOTS}
use Rattle.sfnt_bytes.specs.Sums.{checksum_of}
use Rattle.font_theory.specs.Bytes.{padded}
use Rattle.font_theory.specs.File.{Writing, writing_of, header_bytes}
use Rattle.font_theory.proofs.PaddingLemmas.{length-padded-is}
use Rattle.font_write.specs.Parts.{bodies_to, bytes_at}
use Rattle.font_write.specs.Plan.{IsMeasure, measure_at}
use Rattle.font_write.proofs.ChecksumLemmas.{IsSum, checksum_of-small, sum_end, sum_more, sum_start}
use Rattle.font_write.proofs.PartLemmas.{bodies_more, bodies_start, count_between, slot_ends}
use Rattle.font_write.proofs.plan.sum_file.Goals as goal

pub header-requires-clause-some : goal.header-requires-clause-some
header-requires-clause-some g c = let between =
    count_between (writing_of c.args.profile) (g.S.Source.content_of c.args.source.now) in
    omega (arith, between.0, c.requires.count)

pub header-requires-clause-few : goal.header-requires-clause-few
header-requires-clause-few g c = let between =
    count_between (writing_of c.args.profile) (g.S.Source.content_of c.args.source.now) in
    omega (arith, between.1, c.requires.count)

pub loop-place-init : goal.loop-place-init
loop-place-init g c =
    let writing : Writing = writing_of c.args.profile in
    let K = g.S.Source.content_of c.args.source.now in
    record {
      summed = subst (IsSum writing K 0 (checksum_of (header_bytes c.args.count))) (sym (c.word_sum-sum.ensures
          ∙ ap checksum_of c.header.ensures)) (sum_start writing K (checksum_of (header_bytes c.args.count))
          (checksum_of-small (header_bytes c.args.count)));
      offset = omega (arith, c.requires.count, ap length (bodies_start writing K));
    }

pub overflow_add-offset-in-loop-place : goal.overflow_add-offset-in-loop-place
overflow_add-offset-in-loop-place g c =
    let writing : Writing = writing_of c.args.profile in
    let K = g.S.Source.content_of c.args.source.now in
    let slot : ℕ = c.loop-place.place in
    let m : IsMeasure writing K (slot_at slot) (measure_at c.args.measures.now slot) =
    c.requires.measures slot (omega arith) in
    omega (
      arith,
      m.long,
      c.padding.ensures,
      c.requires.small,
      slot_ends writing K slot (omega arith),
      length-padded-is (bytes_at writing K (slot_at slot)),
    )

pub overflow_add-offset-in-loop-place-2 : goal.overflow_add-offset-in-loop-place-2
overflow_add-offset-in-loop-place-2 g c =
    let writing : Writing = writing_of c.args.profile in
    let K = g.S.Source.content_of c.args.source.now in
    let slot : ℕ = c.loop-place.place in
    let m : IsMeasure writing K (slot_at slot) (measure_at c.args.measures.now slot) =
    c.requires.measures slot (omega arith) in
    omega (
      arith,
      m.long,
      c.padding.ensures,
      c.requires.small,
      slot_ends writing K slot (omega arith),
      length-padded-is (bytes_at writing K (slot_at slot)),
      c.loop-place.invariant.offset,
    )

pub loop-place-preserved : goal.loop-place-preserved
loop-place-preserved g c =
    let writing : Writing = writing_of c.args.profile in
    let K = g.S.Source.content_of c.args.source.now in
    let slot : ℕ = c.loop-place.place in
    let m : IsMeasure writing K (slot_at slot) (measure_at c.args.measures.now slot) =
    c.requires.measures slot (omega arith) in
    let more = ap length (bodies_more writing K slot) in
    record {
      summed = sum_more writing K slot _ _ _ c.recall_laws.ensures.writable (omega arith) c.loop-place.invariant.summed
          c.sum_slot-sum.ensures;
      offset = omega (
        arith,
        m.long,
        c.padding.ensures,
        more,
        length-append (bodies_to writing K slot)
            (padded (bytes_at writing K (slot_at slot))),
        length-padded-is (bytes_at writing K (slot_at slot)),
        c.loop-place.invariant.offset,
      );
    }

pub returns : goal.returns
returns g c =
    let writing : Writing = writing_of c.args.profile in
    let K = g.S.Source.content_of c.args.source.now in
    let all : c.loop-place.place ≡ ALL_SLOTS = omega arith in
    sum_end writing K (checksum_of (header_bytes c.args.count)) c.loop-place.sum c.recall_laws.ensures.writable
    (ap (λ (n : ℕ). checksum_of (header_bytes n)) c.requires.count)
    (subst (λ (n : ℕ). IsSum writing K n (checksum_of (header_bytes c.args.count)) c.loop-place.sum) all
    c.loop-place.invariant.summed)
