use Rattle.std.proofs.Common.{option_copied}
use Rattle.std.proofs.lemmas.Result.{MatchResult-weaker}
use Rattle.font_subset.specs.CutOfKind.{closed_if}
use Rattle.font_subset.specs.KeptGlyphs.{asked, wanted_in}
use Rattle.font_subset.proofs.CutLemmas.{is_sound_in}
use Rattle.font_subset.proofs.cut_font.cut_of_kind.Goals as goal

pub returns-clause-sound : goal.returns-clause-sound
returns-clause-sound g c =
    let font = c.args.font.now in
    MatchResult-weaker c.cut_of_opened.result c.cut_of_opened.ensures.exact
    (λ v written. is_sound_in (font.0, font.1.0) v.items (closed_if font.1.1 font.0 font.1.0
    (wanted_in (asked (option_copied c.args.codes) (option_copied c.args.glyphs)))) c.recall_opened.ensures.accepted
    written)
    (λ e h. tt)
