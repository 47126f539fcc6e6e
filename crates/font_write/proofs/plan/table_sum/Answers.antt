use Rattle.std.proofs.Common.{ℕ, List, [], refl, sym, ap, ◌∙◌, Option, arith}
use Rattle.std.specs.Option.{unwrap_or}
use Rattle.sfnt_bytes.specs.Sums.{checksum_of}
use Rattle.font_theory.specs.Content.{Content}
use Rattle.font_theory.specs.File.{Writing, checksum_in_slot, cmap_of_content, writing_of}
use Rattle.font_theory.proofs.SumLemmas.{checksum_in_slot-other}
use Rattle.font_write.specs.Parts.{last_head}
use Rattle.font_write.specs.Inside.{all_offsets, glyf_in}
use Rattle.font_write.specs.Made.{slot_of}
use Rattle.font_write.proofs.ChecksumLemmas.{checksum_in_slot-last_head, checksum_in_slot-nil}
use Rattle.font_write.proofs.MeasureLemmas.{sum_is}
use Rattle.font_write.proofs.SlotLemmas.{outlines_end, table_cmap, table_copied, table_glyf, table_head, table_loca}
use Rattle.font_write.proofs.plan.table_sum.Goals as goal

pub returns-in-Some-Cmap : goal.returns-in-Some-Cmap
returns-in-Some-Cmap g c =
    let writing : Writing = writing_of c.args.profile in
    let K : Content = g.S.Source.content_of c.args.source.now in
    sum_is writing K c.args.slot 1 (cmap_of_content writing K) _ (c.in-Some-Cmap.ensures
    ∙ ap slot_of c.in-Some-Cmap.field-0-is) (table_cmap writing K) c.sum_cmap.ensures

pub returns-in-Some-Glyf : goal.returns-in-Some-Glyf
returns-in-Some-Glyf g c =
    let writing : Writing = writing_of c.args.profile in
    let K : Content = g.S.Source.content_of c.args.source.now in
    sum_is writing K c.args.slot 5 (glyf_in writing K) _ (c.in-Some-Glyf.ensures ∙ ap slot_of c.in-Some-Glyf.field-0-is)
    (table_glyf writing K) c.sum_glyf.ensures

pub returns-in-Some-Head : goal.returns-in-Some-Head
returns-in-Some-Head g c =
    let writing : Writing = writing_of c.args.profile in
    let K : Content = g.S.Source.content_of c.args.source.now in
    let sum = c.sum_head.ensures ∙ sym (ap checksum_of c.head.ensures.head)
    ∙ sym (checksum_in_slot-last_head writing K c.recall_laws.ensures.writable) in
    sum_is writing K c.args.slot 6 (last_head writing K) _ (c.in-Some-Head.ensures
    ∙ ap slot_of c.in-Some-Head.field-0-is) (table_head writing K) sum

pub sum_loca-requires : goal.sum_loca-requires
sum_loca-requires g c =
    let writing : Writing = writing_of c.args.profile in
    let K : Content = g.S.Source.content_of c.args.source.now in
    omega (arith, c.requires.small, outlines_end writing K)

pub returns-in-Some-Loca : goal.returns-in-Some-Loca
returns-in-Some-Loca g c =
    let writing : Writing = writing_of c.args.profile in
    let K : Content = g.S.Source.content_of c.args.source.now in
    sum_is writing K c.args.slot 9 (all_offsets K) _ (c.in-Some-Loca.ensures ∙ ap slot_of c.in-Some-Loca.field-0-is)
    (table_loca writing K) c.sum_loca.ensures

pub returns-in-Some : goal.returns-in-Some
returns-in-Some g c =
    let writing : Writing = writing_of c.args.profile in
    let K : Content = g.S.Source.content_of c.args.source.now in
    let same = table_copied writing K c.args.slot c.in-None.ensures in
    let b : List ℕ = c.in-Some.bytes.now in
    sum_is writing K c.args.slot c.args.slot b _ refl (same ∙ c.in-Some.ensures.table) (c.word_sum.ensures
    ∙ sym (checksum_in_slot-other c.args.slot b c.in-None.ensures.2))

pub returns-in-None-copied : goal.returns-in-None-copied
returns-in-None-copied g c =
    let writing : Writing = writing_of c.args.profile in
    let K : Content = g.S.Source.content_of c.args.source.now in
    let same = table_copied writing K c.args.slot c.in-None.ensures in
    sym (ap (λ (o : Option (List ℕ)). checksum_in_slot c.args.slot (unwrap_or o [])) (same
    ∙ c.in-None-copied.ensures.table) ∙ checksum_in_slot-nil c.args.slot)
