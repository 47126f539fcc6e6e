use Rattle.std.proofs.Common.{◌≡◌, ℕ, Bool, List, length, subst}
use Rattle.std.specs.Result.{IfErr, IfOk, OnOk}
use Rattle.std.specs.Option.{IsSome}
use Rattle.codes.specs.Wanted.{member}
use Rattle.font_theory.specs.Content.{Wanted, of_codes}
use Rattle.font_theory.specs.declared.kinds.Kind.{Kind}
use Rattle.streams.specs.Outlet.{HasSent, writer_of}
use Rattle.font_subset.specs.CutOfFont.{StopsCut}
use Rattle.font_subset.specs.CutOfKind.{opened_font_cut}
use Rattle.font_subset.proofs.cut_font.cut_into.Goals as goal

pub returns-clause-size : goal.returns-clause-size
returns-clause-size g c =
    let W : Wanted = of_codes (member c.args.wanted.now) in
    subst (λ (f : Kind × (List ℕ × Bool)). IfOk c.cut_of_kind_into.result (λ size. size ≡ length (opened_font_cut f W)))
    c.full.ensures c.cut_of_kind_into.ensures.size

pub returns-clause-sent : goal.returns-clause-sent
returns-clause-sent g c =
    let W : Wanted = of_codes (member c.args.wanted.now) in
    subst (λ (f : Kind × (List ℕ × Bool)). OnOk c.cut_of_kind_into.result (IsSome (g.W.Write.contents (writer_of
    c.args.out.now)) → HasSent g.W.Write.contents c.cut_of_kind_into.new.out (opened_font_cut f W))) c.full.ensures
    c.cut_of_kind_into.ensures.sent

pub returns-clause-stops : goal.returns-clause-stops
returns-clause-stops g c =
    let W : Wanted = of_codes (member c.args.wanted.now) in
    subst (λ (f : Kind × (List ℕ × Bool)). IfErr c.cut_of_kind_into.result
    (StopsCut g.W.Write.contents c.args.out.now c.cut_of_kind_into.new.out (opened_font_cut f W))) c.full.ensures
    c.cut_of_kind_into.ensures.stops
