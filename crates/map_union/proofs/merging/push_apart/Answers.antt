use Rattle.std.proofs.Common.{◌≡◌, ℕ, List, ◌++◌, subst, sym, arith}
use Rattle.codes.specs.CharacterMap.{united}
use Rattle.codes.specs.Runs.{spelled}
use Rattle.codes.specs.declared.runs.Run.{Run}
use Rattle.map_union.specs.Inside.{IsDone}
use Rattle.map_union.proofs.merging.push_apart.Goals as goal

pub loop-stretch-preserved : goal.loop-stretch-preserved
loop-stretch-preserved g c =
    let M : ℕ → ℕ = united (spelled c.args.a.now) (spelled c.args.b.now) in
    let pushed : c.push_stretch.new.runs.items ≡ c.loop-stretch.runs.items ++ c.in-Some.stretch.runs.now =
    c.in_ok-push_stretch.ensures.pushed in
    record {
      done = subst (λ (runs : List Run). IsDone M runs c.in-Some.stretch.end.code) (sym pushed)
          (c.in-Some.ensures.done c.loop-stretch.runs.items c.loop-stretch.invariant.done);
      past = c.in-Some.ensures.past;
      order = omega (arith, c.loop-stretch.invariant.order, c.in-Some.ensures.order.0);
      small = omega (arith, c.in-Some.ensures.order.1);
    }
