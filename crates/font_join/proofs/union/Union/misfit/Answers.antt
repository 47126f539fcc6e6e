use Rattle.std.proofs.Common.{◌≡◌, ℕ, List, Bool, false, true, sym, subst}
use Rattle.font_theory.specs.Agreement.{both}
use Rattle.font_theory.specs.Content.{content, everything}
use Rattle.font_theory.specs.Cut.{IsCut, content_of_all}
use Rattle.font_theory.specs.Kinds.{font_of, format_of, keeps_sequences}
use Rattle.font_theory.specs.Parted.{sequences}
use Rattle.font_theory.specs.declared.kinds.Kind.{Kind}
use Rattle.font_theory.specs.declared.kinds.TheConstants.{SEQUENCES}
use Rattle.font_theory.proofs.KindLemmas.{misfit-kind}
use Rattle.divided_tables.specs.DividedTables.{AreFine}
use Rattle.divided_tables.specs.PartedTable.{IsRoomOf}
use Rattle.font_join.specs.Union.{HasShortTables, Held, content_in}
use Rattle.font_join.proofs.MergeLemmas.{fine_file, fine_union, room_told, spells_file, told_of_kind}
use Rattle.font_join.proofs.union.Union.misfit.Goals as goal

pub returns-then-not-keeps_sequences-clause-told : goal.returns-then-not-keeps_sequences-clause-told
returns-then-not-keeps_sequences-clause-told g c = λ K spells alike.
    let v : Held = c.args.self.now in
    let none : keeps_sequences v.kind ≡ false =
    told_of_kind keeps_sequences _ v c.self.view_is c.kind.result false c.kind.ensures.kind
    c.if-not-keeps_sequences.ensures in
    sym (misfit-kind v.kind none (both K (content_of_all (format_of v.kind) c.args.file.now.1)))

pub of-requires : goal.of-requires
of-requires g c =
    subst (λ (v : Held). HasShortTables v → AreFine (content_in v).copied) c.self.view_is
    (fine_union c.self.inside.first.0 _ c.self.invariant.whole c.self.invariant.spells) c.requires.small

pub of-requires-2 : goal.of-requires-2
of-requires-2 g c = fine_file c.args.file.now.0 c.args.file.now.1
    (subst (λ (k : Kind). IsCut (format_of k) c.args.file.now.1) (sym c.requires.same) c.requires.form)

pub returns-then-fits-clause-told : goal.returns-then-fits-clause-told
returns-then-fits-clause-told g c = λ K spells alike.
    let v : Held = c.args.self.now in
    let y : List ℕ = c.args.file.now.1 in
    let keeps : keeps_sequences v.kind ≡ true =
    told_of_kind keeps_sequences _ v c.self.view_is c.kind.result true c.kind.ensures.kind
    c.if-not-keeps_sequences.ensures in
    room_told v.kind keeps (content_in v) (content (font_of v.kind y) everything) K
    (content_of_all (format_of v.kind) y)
    spells (spells_file v.kind y c.requires.form) (c.requires.early K spells) alike true
    (subst (λ (k : Kind). IsRoomOf sequences SEQUENCES (content_in v) (content (font_of k y) everything) true)
    c.requires.same c.if-fits.ensures)

pub returns-clause-told : goal.returns-clause-told
returns-clause-told g c = λ K spells alike.
    let v : Held = c.args.self.now in
    let y : List ℕ = c.args.file.now.1 in
    let keeps : keeps_sequences v.kind ≡ true =
    told_of_kind keeps_sequences _ v c.self.view_is c.kind.result true c.kind.ensures.kind
    c.if-not-keeps_sequences.ensures in
    room_told v.kind keeps (content_in v) (content (font_of v.kind y) everything) K
    (content_of_all (format_of v.kind) y)
    spells (spells_file v.kind y c.requires.form) (c.requires.early K spells) alike false
    (subst (λ (k : Kind). IsRoomOf sequences SEQUENCES (content_in v) (content (font_of k y) everything) false)
    c.requires.same c.if-fits.ensures)
