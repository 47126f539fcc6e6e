use Rattle.std.proofs.Common.{◌≡◌, ◌<◌, true, ◌++◌, ◌∷◌, [], rules, length, map, sym, subst, ◌∙◌, ap}
use Rattle.std.proofs.lemmas.List.{map-append}
use Rattle.streams.specs.Inlet.{inlet_fresh_of}
use Rattle.commands.proofs.ReadEachLemmas.{all_got, all_spent, next_is, one_more_read, still_read, stops_reading}
use Rattle.commands.proofs.join.read_each.Goals as goal

pub read_all-requires : goal.read_all-requires
read_all-requires g c =
    let next = next_is _ _ _ _ _ c.loop-k.invariant c.index-inlets-k.result in
    subst (λ inlet. inlet_fresh_of inlet ≡ true) (sym next) (c.requires c.loop-k.k c.index-inlets-k.result
    c.loop-k-test.true)

pub returns-in_err-file-clause-stops : goal.returns-in_err-file-clause-stops
returns-in_err-file-clause-stops g c =
    let low : c.loop-k.k < length c.loop-k.inlets = search rules in
    let stops = stops_reading _ _ _ _ _ c.loop-k.invariant c.index-inlets-k.result c.read_all.new.self low
    c.in_err-file.ensures.spent c.in_err-file.field-0.0 c.in_err-file.ensures.error in
    search (rules, stops)

pub returns-in_err-more_room_for-clause-stops : goal.returns-in_err-more_room_for-clause-stops
returns-in_err-more_room_for-clause-stops g c =
    let low : c.loop-k.k < length c.loop-k.inlets = search rules in
    let stops = still_read _ _ _ _ _ c.loop-k.invariant c.index-inlets-k.result c.read_all.new.self low
    c.in_ok-file.ensures.spent c.in_ok-file.ensures.whole in
    search (rules, stops)

pub loop-k-preserved : goal.loop-k-preserved
loop-k-preserved g c =
    let low : c.loop-k.k < length c.loop-k.inlets = search rules in
    let more : c.push.new.self.items ≡ c.loop-k.files.items ++ c.in_ok-file.file ∷ [] = search rules in
    let is = ap (map (λ v. v.items)) more ∙ map-append (λ v. v.items) c.loop-k.files.items (c.in_ok-file.file ∷ []) in
    let came = c.in_ok-file.ensures in
    one_more_read _ _ _ _ _ c.loop-k.invariant c.index-inlets-k.result c.read_all.new.self low c.in_ok-file.file.items _
    is came.got came.spent came.whole

pub returns-clause-got : goal.returns-clause-got
returns-clause-got g c = all_got _ _ _ _ _ c.loop-k.invariant (search rules)

pub returns-clause-spent : goal.returns-clause-spent
returns-clause-spent g c = all_spent _ _ _ _ _ c.loop-k.invariant (search rules)
