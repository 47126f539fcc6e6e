use Rattle.std.proofs.Common.{ℕ, arith, subst, sym}
use Rattle.variation_sequences.specs.Inside.{IsFirstVariant}
use Rattle.variation_sequences.specs.declared.variant.Variant.TheVariants.{Glyph}
use Rattle.variation_sequences.proofs.EntryLemmas.{first_mapped, first_none, first_unchanged}
use Rattle.variation_sequences.proofs.entries.first_variant.Goals as goal

pub returns-then-mapped-in_range : goal.returns-then-mapped-in_range
returns-then-mapped-in_range c =
    subst
    (λ (g : ℕ). IsFirstVariant c.args.ranges.now c.args.mappings.now c.args.from c.next_code-mapped.result (Glyph g))
    (sym c.glyph_at.ensures)
    (first_mapped _ _ _ _ _ _ _ c.next_code-in_range.ensures c.next_code-mapped.ensures (omega arith))

pub returns-then-in_range-eq-CODES : goal.returns-then-in_range-eq-CODES
returns-then-in_range-eq-CODES c =
    first_none _ _ _ _ _ _ _ c.next_code-in_range.ensures c.next_code-mapped.ensures (omega arith) (omega arith)

pub returns : goal.returns
returns c =
    first_unchanged _ _ _ _ _ _ _ c.next_code-in_range.ensures c.next_code-mapped.ensures (omega arith)
    (omega (arith, c.next_code-in_range.ensures.within))
