-- Laws of the table of a font, and of parts of one table.
use Rattle.std.proofs.Common.{◌≡◌, ℕ, Bool, true, false, cond, eqb, ◌⊎◌, List, [], length, refl, ap, ◌∙◌, inl, inr}
use Rattle.variation_sequences.specs.Pairs.{part_of, sequence_pairs}
use Rattle.variation_sequences.specs.declared.variant.Pair.{Pair}
use Rattle.font_theory.specs.Content.{glyph_count}
use Rattle.font_theory.specs.Parting.{Tables}
use Rattle.sequence_parts.specs.Laws.{AreOf, FitWithoutClash, FontHasOwnParts, PartsAreTheTable, PartsOfOneTableFit}
use Rattle.sequence_parts.specs.Laws.{WholeIsOfItsParts}
use Rattle.font_theory.specs.Parted.{sequences}
use Rattle.font_theory.specs.SequenceTable.{have_room, pairs_of_parts, sequence_table, sequences_in}
use Rattle.font_theory.proofs.SequenceFontLemmas.{font_read}
use Rattle.sequence_parts.specs.Clashes.{either_part, first_clash}
use Rattle.font_theory.proofs.SequencePartLemmas.{few_pairs, fewer_room, no_clash, own_merged, own_room, room_rises}
use Rattle.font_theory.proofs.SequencePartLemmas.{room_without}
use Rattle.font_theory.proofs.SequenceTableLemmas.{sequences_in-among, sequences_in-table}

-- so the parts of its table are its pairs
pub own_parts_of_font : FontHasOwnParts
unfolding sequences
own_parts_of_font c cmap of_code below =
    let n = glyph_count c in
    let t = sequence_table (sequence_pairs cmap of_code n) in
    let both = sequences_in-among n t in
    record {
      part = λ g. ap (λ (ps : List Pair). sequence_table (part_of ps g)) (font_read n of_code cmap below);
      fits = own_room n (sequences_in n t) both.0 both.1;
    }

-- the table of the parts of a table has the pairs that are read of it
parts_together : (c : Tables) (t : List ℕ)
    → sequences.whole c [] (sequences.part c t) ≡ sequence_table (sequences_in (glyph_count c) t)
unfolding sequences
parts_together c t =
    let n = glyph_count c in
    let both = sequences_in-among n t in ap sequence_table (own_merged n (sequences_in n t) both.0 both.1)

pub table_of_parts : PartsAreTheTable
table_of_parts c cmap of_code below =
    parts_together c (sequence_table (sequence_pairs cmap of_code (glyph_count c)))
    ∙ ap sequence_table (font_read (glyph_count c) of_code cmap below)

pub whole_again : WholeIsOfItsParts
unfolding sequences
whole_again c parts fit =
    let n = glyph_count c in
    let ps = pairs_of_parts n parts in
    parts_together c (sequence_table ps)
    ∙ ap sequence_table (sequences_in-table n ps (room_rises n parts fit) (few_pairs ps fit))

-- parts of one table
of_either : (b p q part : List ℕ) → (p ≡ []) ⊎ (p ≡ part) → (q ≡ []) ⊎ (q ≡ part)
    → (b ≡ p) ⊎ (b ≡ q) → (b ≡ []) ⊎ (b ≡ part)
of_either b p q part f s (inl e) = elim f [ inl x ↦ inl (e ∙ x) | inr x ↦ inr (e ∙ x) ]
of_either b p q part f s (inr e) = elim s [ inl x ↦ inl (e ∙ x) | inr x ↦ inr (e ∙ x) ]

fits_of : (c : Tables) (t : List ℕ) (parts : ℕ → List ℕ) → AreOf c t parts
    → have_room (pairs_of_parts (glyph_count c) parts) ≡ true
unfolding sequences
fits_of c t parts of =
    let n = glyph_count c in
    let both = sequences_in-among n t in
    fewer_room n (sequences.part c t) parts of (own_room n (sequences_in n t) both.0 both.1)

choice : (P Q : ℕ → List ℕ) (g : ℕ) → (either_part P Q g ≡ P g) ⊎ (either_part P Q g ≡ Q g)
choice P Q g = by_test (eqb (length (P g)) 0)
  where
    by_test : (b : Bool) → (cond b (Q g) (P g) ≡ P g) ⊎ (cond b (Q g) (P g) ≡ Q g)
    by_test true = inr refl
    by_test false = inl refl

pub fit_without_clash : FitWithoutClash
unfolding sequences first_clash
fit_without_clash t P Q apart few = room_without (pairs_of_parts (glyph_count t) (either_part P Q)) apart few

pub one_table_fits : PartsOfOneTableFit
unfolding sequences first_clash
one_table_fits c t P Q first second = (
  λ parts either. fits_of c t parts (λ g. of_either (parts g) (P g) (Q g) _ (first g) (second g) (either g)),
  no_clash (pairs_of_parts (glyph_count c) (either_part P Q))
      (fits_of c t (either_part P Q)
      (λ g. of_either (either_part P Q g) (P g) (Q g) _ (first g) (second g) (choice P Q g))),
)
