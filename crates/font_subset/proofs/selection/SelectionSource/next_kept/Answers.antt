use Rattle.std.proofs.Common.{subst, arith}
use Rattle.font_subset.specs.KeptGlyphs.{IsKeptSet, wanted_in}
use Rattle.font_subset.proofs.SourceLemmas.{Held, count_as, next_is}
use Rattle.font_subset.proofs.selection.SelectionSource.next_kept.Goals as goal

pub next_from-requires : goal.next_from-requires
next_from-requires g c =
    let marked : IsKeptSet c.args.self.now.0 c.args.self.now.1.0 (wanted_in c.args.self.now.1.1) c.self.inside.kept =
    subst (λ (v : Held). IsKeptSet v.0 v.1.0 (wanted_in v.1.1) c.self.inside.kept) c.self.view_is
    c.self.invariant.kept in
    omega (arith, marked.count, count_as c.args.self.now.0 c.args.self.now.1.0, c.requires)

pub overflow_cast-result : goal.overflow_cast-result
overflow_cast-result g c =
    let marked : IsKeptSet c.args.self.now.0 c.args.self.now.1.0 (wanted_in c.args.self.now.1.1) c.self.inside.kept =
    subst (λ (v : Held). IsKeptSet v.0 v.1.0 (wanted_in v.1.1) c.self.inside.kept) c.self.view_is
    c.self.invariant.kept in
    omega (
      arith,
      marked.count,
      count_as c.args.self.now.0 c.args.self.now.1.0,
      c.glyph_count-count.ensures,
      c.next_from.ensures.within,
    )

pub returns : goal.returns
returns g c =
    let marked : IsKeptSet c.args.self.now.0 c.args.self.now.1.0 (wanted_in c.args.self.now.1.1) c.self.inside.kept =
    subst (λ (v : Held). IsKeptSet v.0 v.1.0 (wanted_in v.1.1) c.self.inside.kept) c.self.view_is
    c.self.invariant.kept in
    let next = c.next_from.ensures in
    next_is c.args.self.now.0 c.args.self.now.1.0 (wanted_in c.args.self.now.1.1) c.self.inside.kept marked
    c.args.from c.next_from.result next.order next.within next.passed next.marked
