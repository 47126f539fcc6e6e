use Rattle.std.proofs.Common.{◌<◌, ℕ, sym, subst}
use Rattle.sfnt_bytes.specs.declared.tag.TheConstants.{ALL_SLOTS as SLOT_COUNT}
use Rattle.sfnt_bytes.proofs.PlaceLemmas.{slot_at-is, slot_at_low}
use Rattle.sfnt_bytes.proofs.tag.slot_in.Goals as goal

pub returns-clause-slot : goal.returns-clause-slot
returns-clause-slot c = slot_at-is c.args.place c.requires

pub returns-clause-low : goal.returns-clause-low
returns-clause-low c =
    subst (λ (s : ℕ). s < SLOT_COUNT) (sym (slot_at-is c.args.place c.requires)) (slot_at_low c.args.place c.requires)
