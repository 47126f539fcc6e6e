use Rattle.std.proofs.Common.{ℕ, rules, length, map, sym, subst, ◌∙◌, ap}
use Rattle.font_subset.specs.CutOfKind.{cut_of}
use Rattle.font_theory.specs.Kinds.{format_of}
use Rattle.font_theory.specs.Tree.{union_below}
use Rattle.font_join.specs.JoinList.{AreCuts, IsSentAs}
use Rattle.commands.specs.JoinRun.{AreGot}
use Rattle.font_join.proofs.LeastListLemmas.{least_of_all}
use Rattle.font_theory.proofs.KindLemmas.{kind_is}
use Rattle.commands.proofs.JoinRunLemmas.{finish_stopped, into_rightly_refused, into_stopped, only_size_into}
use Rattle.commands.proofs.JoinRunLemmas.{read_refused, read_stopped}
use Rattle.commands.proofs.RunLemmas.{sends_end}
use Rattle.commands.proofs.join.run_join_of_kind.Goals as goal

pub returns-in_err-size-clause-cuts : goal.returns-in_err-size-clause-cuts
returns-in_err-size-clause-cuts g c = λ F A are.
    let same = ap (map (λ v. v.items)) c.deref.ensures.value in
    let got = c.in_ok-files.ensures.got in
    let size = c.in_err-size.ensures.laws.cuts F A (subst (AreCuts (format_of c.args.kind) F A) (sym same)
    (are _ got)) in
    let only = only_size_into (format_of c.args.kind) F A _ _ (ap length same ∙ got.count) c.in_err-size.field-0.0
    size in
    search (rules, only)

pub returns-clause-cuts : goal.returns-clause-cuts
returns-clause-cuts g c = λ F A are.
    let same = ap (map (λ v. v.items)) c.deref.ensures.value in
    let got = c.in_ok-files.ensures.got in
    let sent = c.in_ok-size.ensures.laws.cuts F A (subst (AreCuts (format_of c.args.kind) F A) (sym same)
    (are _ got)) in
    let long = ap length same ∙ got.count in
    let all = subst (λ (n : ℕ). IsSentAs g.W.Write.contents c.args.outlet.now c.join_all_of_kind_into.new.out
    (cut_of c.args.kind F (union_below A n)) c.in_ok-size.size) long sent in (
      all.size_is,
      sends_end g.W.Write.contents c.args.outlet.now c.join_all_of_kind_into.new.out c.finish.new.self _
          all.sends c.finish.ensures.sends,
    )

pub returns-in_err-size-clause-error : goal.returns-in_err-size-clause-error
returns-in_err-size-clause-error g c =
    let same = ap (map (λ v. v.items)) c.deref.ensures.value in
    let got = subst (AreGot g.R.Read.remaining c.args.inlets.now) (sym same) c.in_ok-files.ensures.got in
    let stopped = into_stopped (format_of c.args.kind) g.R.Read.remaining g.W.Write.contents c.args.inlets.now
    c.read_each.new.inlets c.args.outlet.now c.join_all_of_kind_into.new.out _ c.read_each.auto.inlets
    c.in_ok-files.ensures.spent got c.in_err-size.field-0.0 c.in_err-size.ensures.stops in
    search (rules, stopped)

pub returns-in_err-files-clause-error : goal.returns-in_err-files-clause-error
returns-in_err-files-clause-error g c =
    let stopped = read_stopped (format_of c.args.kind) g.R.Read.remaining g.W.Write.contents c.args.inlets.now
    c.read_each.new.inlets c.args.outlet.now c.in_err-files.field-0.0 c.in_err-files.ensures.stops in
    search (rules, stopped)

pub returns-in_err-finish-clause-error : goal.returns-in_err-finish-clause-error
returns-in_err-finish-clause-error g c =
    let same = ap (map (λ v. v.items)) c.deref.ensures.value in
    let got = subst (AreGot g.R.Read.remaining c.args.inlets.now) (sym same) c.in_ok-files.ensures.got in
    let sent = c.in_ok-size.ensures.exact in
    let stopped = finish_stopped (format_of c.args.kind) g.R.Read.remaining g.W.Write.contents c.args.inlets.now
    c.read_each.new.inlets c.args.outlet.now c.join_all_of_kind_into.new.out c.finish.new.self _
    c.in_ok-files.ensures.spent got c.requires.outlet sent.file sent.joined sent.sent.sends c.finish.ensures.sends
    c.in_err-finish.field-0.0.written c.in_err-finish.ensures.count c.in_err-finish.ensures.broken in
    search (rules, stopped)

pub returns-clause-sent : goal.returns-clause-sent
returns-clause-sent g c =
    let same = ap (map (λ v. v.items)) c.deref.ensures.value in
    let got = subst (AreGot g.R.Read.remaining c.args.inlets.now) (sym same) c.in_ok-files.ensures.got in
    let sent = c.in_ok-size.ensures.exact in (
      _,
      got,
      (
        sent.file,
        sent.joined,
        sent.sent.size_is,
        sends_end g.W.Write.contents c.args.outlet.now
            c.join_all_of_kind_into.new.out c.finish.new.self sent.file sent.sent.sends c.finish.ensures.sends,
      ),
    )

pub returns-clause-upper : goal.returns-clause-upper
returns-clause-upper g c =
    let same = ap (map (λ v. v.items)) c.deref.ensures.value in
    let got = subst (AreGot g.R.Read.remaining c.args.inlets.now) (sym same) c.in_ok-files.ensures.got in
    let sent = c.in_ok-size.ensures.exact in (
      _,
      got,
      (
        sent.file,
        least_of_all (kind_is c.args.kind) _ sent.file sent.joined,
        sent.sent.size_is,
        sends_end g.W.Write.contents c.args.outlet.now
            c.join_all_of_kind_into.new.out c.finish.new.self sent.file sent.sent.sends c.finish.ensures.sends,
      ),
    )

pub returns-in_err-size-clause-refused : goal.returns-in_err-size-clause-refused
returns-in_err-size-clause-refused g c =
    let same = ap (map (λ v. v.items)) c.deref.ensures.value in
    let got = subst (AreGot g.R.Read.remaining c.args.inlets.now) (sym same) c.in_ok-files.ensures.got in
    let right = into_rightly_refused (format_of c.args.kind) g.R.Read.remaining c.args.inlets.now _ got
    c.in_err-size.field-0.0 (λ e is. c.in_err-size.ensures.refused e (search (rules, is))) in
    search (rules, right)

pub returns-in_err-files-clause-refused : goal.returns-in_err-files-clause-refused
returns-in_err-files-clause-refused g c =
    let right = read_refused (format_of c.args.kind) g.R.Read.remaining c.args.inlets.now c.read_each.new.inlets
    c.in_err-files.field-0.0 c.in_err-files.ensures.stops in
    search (rules, right)
