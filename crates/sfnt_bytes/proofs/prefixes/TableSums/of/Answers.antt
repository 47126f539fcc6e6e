use Rattle.std.proofs.Common.{arith, refl, sym, ap, drop, ◌∙◌}
use Rattle.sfnt_bytes.proofs.PrefixLemmas.{nothing_summed}
use Rattle.sfnt_bytes.proofs.prefixes.TableSums.of.Goals as goal

pub invariant_of-result : goal.invariant_of-result
invariant_of-result c = (
  record {
    one = c.of-2.ensures ∙ ap (drop 1) (sym c.of.ensures);
    two = c.of-3.ensures ∙ ap (drop 2) (sym c.of.ensures);
    three = c.of-4.ensures ∙ ap (drop 3) (sym c.of.ensures);
  },
  record { aligned = refl; within = omega arith; sum = nothing_summed },
)
