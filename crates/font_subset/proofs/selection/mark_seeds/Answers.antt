use Rattle.std.proofs.Common.{option_copied, ℕ, ◌∙◌, arith}
use Rattle.codes.specs.CharacterMap.{restricted}
use Rattle.font_subset.specs.KeptGlyphs.{codes_wanted}
use Rattle.font_file.specs.Font.{map_of}
use Rattle.font_subset.proofs.SeedLemmas.{run_within, seeds_end, seeds_more, wanted_past}
use Rattle.font_subset.proofs.selection.mark_seeds.Goals as goal

pub mark_run-requires-clause-within : goal.mark_run-requires-clause-within
mark_run-requires-clause-within g c =
    omega (
      arith,
      run_within c.args.font.now (codes_wanted (option_copied c.args.wanted)) c.loop-run.from c.in-Some.run'
          c.font.ensures.sound c.in-Some.ensures,
      c.loop-run.invariant.count,
    )

pub loop-run-preserved : goal.loop-run-preserved
loop-run-preserved g c =
    record {
      count = c.mark_run.ensures.count ∙ c.loop-run.invariant.count;
      seeds = seeds_more (restricted (codes_wanted (option_copied c.args.wanted)) (map_of c.args.font.now))
          c.loop-run.from c.in-Some.run' c.loop-run.seeds c.mark_run.new.marks c.in-Some.ensures
          c.loop-run.invariant.seeds c.mark_run.ensures;
    }

pub returns-clause-seeds : goal.returns-clause-seeds
returns-clause-seeds g c =
    let m : ℕ → ℕ = restricted (codes_wanted (option_copied c.args.wanted)) (map_of c.args.font.now) in
    record {
      count = c.loop-run.invariant.count;
      seeds = seeds_end m c.loop-run.from c.loop-run.seeds
          (wanted_past c.args.font.now (codes_wanted (option_copied c.args.wanted)) c.font.ensures.sound)
          c.in_default.ensures c.loop-run.invariant.seeds;
    }
