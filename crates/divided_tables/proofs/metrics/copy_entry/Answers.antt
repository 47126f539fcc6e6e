use Rattle.std.proofs.Common.{◌≡◌, ◌≢◌, ◌∙◌, ℕ, List, subst, sym}
use Rattle.font_theory.specs.Parted.{entry_size}
use Rattle.divided_tables.specs.OpenMetrics.{AreCopied}
use Rattle.divided_tables.proofs.FourLemmas.{entry_size-two}
use Rattle.divided_tables.proofs.metrics.copy_entry.Goals as goal

pub returns-else-entry-eq-PAIR : goal.returns-else-entry-eq-PAIR
returns-else-entry-eq-PAIR c =
    let other : entry_size c.args.pairs c.args.g ≢ 4 =
    λ e. c.if-entry-eq-PAIR.false (c.entry_of-entry.ensures.size ∙ e) in
    copied_at c.args.from.now c.args.to.now c.copy_bytes-else-entry-eq-PAIR.new.to _ _ _ _ c.entry_of-entry.ensures.at
    (sym (entry_size-two c.args.pairs c.args.g c.requires.some other)) c.copy_bytes-else-entry-eq-PAIR.ensures
  where
    copied_at : (from old new : List ℕ) (a b n m : ℕ) → a ≡ b → n ≡ m → AreCopied from a n old new
        → AreCopied from b m old new
    copied_at from old new a b n m e f are =
        subst (λ (x : ℕ). AreCopied from x m old new) e (subst (λ (x : ℕ). AreCopied from a x old new) f are)
