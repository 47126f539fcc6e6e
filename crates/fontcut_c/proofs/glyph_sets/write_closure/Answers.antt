use Rattle.std.proofs.Common.{rules, ◌≡◌}
use Rattle.fontcut_c.specs.GlyphSets.{closure_of}
use Rattle.fontcut_c.specs.Requests.{asked_by}
use Rattle.fontcut_c.proofs.ClosureLemmas.{closure_answered}
use Rattle.fontcut_c.proofs.glyph_sets.write_closure.Goals as goal

pub returns : goal.returns
returns c =
    let a = asked_by c.args.request.now in
    let is : c.deref.result.now ≡ closure_of c.args.kind c.args.font.now a = search rules in
    closure_answered c.args.kind c.args.font.now a c.deref.result.now c.requires c.in_ok-opened.ensures.sound is
    c.args.out.now c.numbers_to.new.out c.numbers_to.result c.numbers_to.ensures
