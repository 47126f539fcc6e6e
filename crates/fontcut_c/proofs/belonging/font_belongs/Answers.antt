use Rattle.fontcut_c.proofs.PairLemmas.{pair_answered}
use Rattle.fontcut_c.proofs.belonging.font_belongs.Goals as goal

pub returns : goal.returns
returns c =
    pair_answered c.args.kind c.args.cut.now c.args.font.now c.in_ok-cut_opened.cut_opened c.in-Ok.opened
    c.in_ok-yes.yes c.in_ok-cut_opened.ensures.exact c.in-Ok.ensures.exact c.in_ok-cut_opened.ensures.sound
    c.in-Ok.ensures.sound c.in_ok-yes.ensures.some_wanted
