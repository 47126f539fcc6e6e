use Rattle.std.proofs.Common.{◌≡◌, None, option_copied, subst, sym, ℕ, List, Option}
use Rattle.codes.specs.declared.code_range.CodeRange.{CodeRange}
use Rattle.font_theory.specs.Kinds.{fault_of}
use Rattle.font_subset.specs.Inside.{IsOpenedFor}
use Rattle.font_subset.specs.KeptGlyphs.{codes_wanted}
use Rattle.font_subset.proofs.selection.Seeds.select.Goals as goal

pub invariant_of-result : goal.invariant_of-result
invariant_of-result g c = record {
  accepted = subst (λ (v : List ℕ × Option (List CodeRange)). fault_of c.args.kind v.0 ≡ None) (sym c.self.view_is)
      c.requires.accepted;
  opened_for = subst (λ (v : List ℕ × Option (List CodeRange)). IsOpenedFor c.args.kind v.0
      (option_copied c.args.opened)) (sym c.self.view_is) c.requires.opened;
  kept = c.in_ok-kept.ensures.kept (codes_wanted (option_copied c.self.inside.wanted)) c.self.invariant;
}
