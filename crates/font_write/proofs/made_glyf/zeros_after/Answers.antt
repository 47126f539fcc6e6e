use Rattle.std.proofs.Common.{ℕ, Bool, cond, refl, sym, ap, ◌∙◌}
use Rattle.std.proofs.lemmas.Bool.{ne_eqb}
use Rattle.font_theory.specs.File.{first_writing, writing_of, second_writing}
use Rattle.font_theory.specs.declared.Profile.{Profile}
use Rattle.font_write.proofs.made_glyf.zeros_after.Goals as goal

pub returns-in-First-clause-exact : goal.returns-in-First-clause-exact
unfolding writing_of first_writing
returns-in-First-clause-exact c = rw c.in-First.is refl

pub returns-then-outlines-eq0-clause-exact : goal.returns-then-outlines-eq0-clause-exact
unfolding writing_of second_writing
returns-then-outlines-eq0-clause-exact c = rw (c.in-Second.is, c.if-outlines-eq0.true) refl

pub returns-else-outlines-eq0-clause-exact : goal.returns-else-outlines-eq0-clause-exact
unfolding writing_of second_writing
returns-else-outlines-eq0-clause-exact c =
    let some = ne_eqb c.args.outlines 0 c.if-outlines-eq0.false in
    ap (λ (b : Bool). cond {A = ℕ} b 4 0) (sym some)
    ∙ ap (λ (profile : Profile). (writing_of profile).zeros c.args.outlines) (sym c.in-Second.is)
