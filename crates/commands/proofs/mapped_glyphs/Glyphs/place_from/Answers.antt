use Rattle.std.proofs.Common.{rules, ◌≡◌, [], refl, subst}
use Rattle.codes.specs.Runs.{IsRun, NoRun}
use Rattle.font_file.specs.Font.{map_of}
use Rattle.commands.specs.MappedGlyphs.{mapped_from}
use Rattle.commands.proofs.GlyphsLemmas.{charted, none_mapped, place_of_run}
use Rattle.commands.proofs.mapped_glyphs.Glyphs.place_from.Goals as goal

pub returns-in_err-run : goal.returns-in_err-run
returns-in_err-run g c =
    let same = charted _ _ _ c.self.invariant c.self.view_is in
    let none : mapped_from (map_of c.args.self.now) c.args.from ≡ [] =
    none_mapped _ c.args.from (subst (λ m. NoRun m c.args.from) same c.in_err-run.ensures.run) in
    search (rules, none)

pub returns : goal.returns
returns g c =
    let same = charted _ _ _ c.self.invariant c.self.view_is in
    place_of_run _ c.args.from _ (subst (λ m. IsRun m c.args.from c.in_ok-run.run') same c.in_ok-run.ensures.run) refl
