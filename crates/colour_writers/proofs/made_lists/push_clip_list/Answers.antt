use Rattle.std.proofs.Common.{arith}
use Rattle.colour_tables.specs.ListedGlyphs.{listed}
use Rattle.colour_writers.proofs.TreeListLemmas.{clips_none, clips_some}
use Rattle.colour_writers.proofs.made_lists.push_clip_list.Goals as goal

pub returns-then-count-eq0-clause-made : goal.returns-then-count-eq0-clause-made
returns-then-count-eq0-clause-made g c =
    clips_none _ c.args.list c.args.at c.args.count (listed (g.P.Planted.trees c.args.picked.now) 0 c.args.n)
    c.requires.count (omega (arith, c.if-count-eq0.true))

pub returns-clause-made : goal.returns-clause-made
returns-clause-made g c =
    clips_some _ _ _ _ c.args.list c.args.at c.args.count (listed (g.P.Planted.trees c.args.picked.now) 0 c.args.n)
    c.requires.count (omega (arith, c.if-count-eq0.false)) c.in_ok-push.ensures.pushed
    c.in_ok-push_u32.ensures.made c.in_ok-push_clips.ensures.made
