use Rattle.std.proofs.Common.{◌≡◌, ◌∙◌, ℕ, ap, nat_le, option_copied, sym}
use Rattle.std.specs.List.{find}
use Rattle.font_tables.specs.Fields.{glyph_count_of}
use Rattle.commands.specs.Run.{stray_number}
use Rattle.commands.proofs.subset.stray_in.Goals as goal

pub returns-in-Some : goal.returns-in-Some
returns-in-Some c =
    let count : c.glyph_count-count.result ≡ glyph_count_of c.args.font.now =
    c.glyph_count-count.ensures.count ∙ ap glyph_count_of c.tables.ensures.tables in
    c.first_past.ensures
    ∙ ap (λ (n : ℕ). find (λ h. nat_le n h) c.in-Some.numbers.now) count
    ∙ ap (stray_number c.args.font.now) (sym (ap (λ o. option_copied o) c.in-Some.is))
