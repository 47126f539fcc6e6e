-- Closed contents are contents for which a file is written.
use Rattle.std.proofs.Common.{◌≡◌, ℕ, ◌≤◌, inl, inr, arith, None}
use Rattle.font_theory.specs.Content.{Content, IsClosedContent, IsWritable, everything, glyph_count, read_back}
use Rattle.font_theory.proofs.CutHeadLemmas.{head-size}
use Rattle.font_theory.proofs.HeldLemmas.{cases_option, some-held}
use Rattle.font_theory.proofs.WantedLemmas.{IsKept-below}

outline-past : (K : Content) → IsClosedContent K → (g : ℕ) → glyph_count K.copied ≤ g → K.outline g ≡ None
outline-past K ok g past =
    elim (cases_option (K.outline g)) [
      | inl none ↦ none
      | inr some ↦ let low = IsKept-below (read_back K) everything ok.font g (some-held K ok g some.0 some.1) in
          absurd (omega (arith, low, past))
    ]

pub IsWritable-closed : (K : Content) → IsClosedContent K → IsWritable K
IsWritable-closed K ok = record {
  mapped_below = ok.font.mapped_below;
  mapped_codes = ok.font.mapped_codes;
  slots = ok.font.slots;
  head_form = ok.font.head_form;
  head_size = head-size K.head ok.font.head;
  past = outline-past K ok;
  sequences = ok.font.sequences;
}
