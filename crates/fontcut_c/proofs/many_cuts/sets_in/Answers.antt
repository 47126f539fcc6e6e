use Rattle.std.proofs.Common.{◌∙◌, map}
use Rattle.fontcut_c.specs.Inside.{cut_of_set, wished_cut}
use Rattle.fontcut_c.proofs.RequestLemmas.{asked_more}
use Rattle.fontcut_c.proofs.many_cuts.sets_in.Goals as goal

pub loop-index-preserved : goal.loop-index-preserved
loop-index-preserved c =
    c.in_ok-push_set.ensures
    ∙ asked_more (wished_cut c.args.font.now) c.args.requests.now c.loop-index.index _
    (map (cut_of_set c.args.font.now) c.loop-index.sets.items) c.loop-index-test.true c.loop-index.invariant
