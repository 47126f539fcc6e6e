use Rattle.std.proofs.Common.{◌≤◌, ℕ, Result, IfErr, map, sym, subst}
use Rattle.std.proofs.lemmas.Result.{MatchResult-weaker}
use Rattle.sfnt_bytes.specs.declared.directory.TheConstants.{MAX_FILE}
use Rattle.font_theory.specs.Kinds.{format_of}
use Rattle.font_join.specs.JoinList.{IsForSizeInto, IsSentAs, StopsJoin}
use Rattle.font_join.specs.declared.join_error.JoinAllIntoError.{JoinAllIntoError}
use Rattle.font_theory.proofs.KindLemmas.{kind_is}
use Rattle.font_join.proofs.JoinListLemmas.{clash_differs, cuts_refused_into, laws_of_join, never_too_long_of_all}
use Rattle.font_join.proofs.JoinListLemmas.{result_cases, small_joined}
use Rattle.font_join.proofs.LeastListLemmas.{least_of_all, true_refusal_of_all}
use Rattle.font_join.proofs.join_list.join_all_of_kind_into.Goals as goal

pub returns-clause-small : goal.returns-clause-small
returns-clause-small g c =
    let bytes = map (λ v. v.items) c.args.files.now in
    MatchResult-weaker c.send_in_turn.result c.send_in_turn.ensures.sends (λ size s. subst (λ (n : ℕ). n ≤ MAX_FILE)
    (sym s.sent.size_is) (small_joined (kind_is c.args.kind) bytes s.file s.joined)) (λ e r. tt)

pub returns-clause-laws : goal.returns-clause-laws
returns-clause-laws g c =
    let bytes = map (λ v. v.items) c.args.files.now in
    laws_of_join (kind_is c.args.kind) bytes c.send_in_turn.result (IsSentAs g.W.Write.contents c.args.out.now
    c.send_in_turn.new.out) (IsForSizeInto (format_of c.args.kind))
    (MatchResult-weaker c.send_in_turn.result (result_cases _ _ c.send_in_turn.result c.send_in_turn.ensures.sends
    c.send_in_turn.ensures.stops)
    (λ size s. (s.file, s.joined, s.sent))
    (λ e r F A are. cuts_refused_into (kind_is c.args.kind) bytes F A are g.W.Write.contents c.args.out.now
    c.send_in_turn.new.out e r))

pub returns-clause-clash : goal.returns-clause-clash
returns-clause-clash g c = λ error e forms t over few d.
    let bytes = map (λ v. v.items) c.args.files.now in
    let stops = subst (λ (r : Result ℕ JoinAllIntoError). IfErr r (StopsJoin (format_of c.args.kind) g.W.Write.contents
    c.args.out.now c.send_in_turn.new.out bytes)) e c.send_in_turn.ensures.stops in
    clash_differs (kind_is c.args.kind) bytes error stops.1 d forms t over few

pub returns-clause-upper : goal.returns-clause-upper
returns-clause-upper g c =
    let bytes = map (λ v. v.items) c.args.files.now in
    MatchResult-weaker c.send_in_turn.result c.send_in_turn.ensures.sends
    (λ size s. (s.file, s.sent, least_of_all (kind_is c.args.kind) bytes s.file s.joined)) (λ e r. tt)

pub returns-clause-refused : goal.returns-clause-refused
returns-clause-refused g c = λ error e.
    let bytes = map (λ v. v.items) c.args.files.now in
    let stops = subst (λ (r : Result ℕ JoinAllIntoError). IfErr r (StopsJoin (format_of c.args.kind) g.W.Write.contents
    c.args.out.now c.send_in_turn.new.out bytes)) e c.send_in_turn.ensures.stops in
    true_refusal_of_all (kind_is c.args.kind) bytes error stops.1

pub returns-clause-fits : goal.returns-clause-fits
returns-clause-fits g c = λ all step tag e.
    let bytes = map (λ v. v.items) c.args.files.now in
    let stops = subst (λ (r : Result ℕ JoinAllIntoError). IfErr r (StopsJoin (format_of c.args.kind) g.W.Write.contents
    c.args.out.now c.send_in_turn.new.out bytes)) e c.send_in_turn.ensures.stops in
    never_too_long_of_all (format_of c.args.kind) bytes all step tag stops.1
