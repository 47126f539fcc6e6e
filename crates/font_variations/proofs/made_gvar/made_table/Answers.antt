use Rattle.std.proofs.lemmas.List.{length-map}
use Rattle.font_variations.proofs.GivenLemmas.{parts_are_gvar}
use Rattle.font_variations.proofs.made_gvar.made_table.Goals as goal

pub returns-clause-table : goal.returns-clause-table
returns-clause-table g c =
    parts_are_gvar _ _ _ _ _ _ _ _ _ (length-map c.args.glyph_data.now (λ d. d.now)) c.in_ok-made.ensures.empty
    c.in_ok-push_header.ensures.made c.in_ok-push_offsets.ensures.made c.in_ok-append.ensures.appended
    c.in_ok-push_data.ensures.made
