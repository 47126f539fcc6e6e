use Rattle.std.proofs.Common.{◌≡◌, ℕ, ◌+◌, ◌≤◌, length, length-append, subst, ap, arith}
use Rattle.std.specs.Option.{IsSome}
use Rattle.font_glyph.specs.RecordMap.{record_in}
use Rattle.font_theory.specs.Content.{Content, glyph_count}
use Rattle.font_write.specs.Parts.{glyf_to}
use Rattle.font_write.proofs.OutlineLemmas.{glyf_more, glyf_within, walk_passes}
use Rattle.font_write.proofs.PartLemmas.{part_fits}
use Rattle.font_write.proofs.made_loca.pass_glyph.Goals as goal

pub returns-then-g-walk : goal.returns-then-g-walk
returns-then-g-walk g c = walk_passes (g.S.Source.content_of c.args.source.now) c.args.g c.args.walk (omega arith)
    c.requires.walk

pub outline_length-requires : goal.outline_length-requires
outline_length-requires g c =
    let K : Content = g.S.Source.content_of c.args.source.now in
    let here : c.args.walk.next ≡ c.args.g = omega (arith, c.requires.walk.next.from_on) in
    subst (λ (n : ℕ). IsSome (K.outline n)) here (c.requires.walk.next.kept (omega (arith, c.requires.within, here)))

pub overflow_add-result : goal.overflow_add-result
overflow_add-result g c =
    let K : Content = g.S.Source.content_of c.args.source.now in
    let f : length (glyf_to K c.args.g) + length (record_in K.outline c.args.g)
    ≤ length (glyf_to K (glyph_count K.copied)) =
    part_fits _ _ _ (glyf_within K c.args.g (glyph_count K.copied) c.requires.within) in
    omega (arith, f, c.requires.small, c.requires.walk.offset, c.outline_length.ensures)

pub returns : goal.returns
returns g c =
    let K : Content = g.S.Source.content_of c.args.source.now in
    let n : ℕ = c.args.g in
    record {
      offset = omega (
        arith,
        ap length (glyf_more K n),
        length-append (glyf_to K n) (record_in K.outline n),
        c.requires.walk.offset,
        c.outline_length.ensures,
      );
      next = c.next_kept.ensures;
    }
