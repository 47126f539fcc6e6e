-- A file whose runs are listed, and a first one.
use Rattle.std.proofs.Common.{◌≡◌, ℕ, ◌-◌, List, [], Bool, true, false, cond, find, is_some, Option, None, refl, sym}
use Rattle.std.proofs.Common.{ap}
use Rattle.std.proofs.Common.{◌∙◌, arith}
use Rattle.std.specs.List.{range_with_len}
use Rattle.font_glyph.specs.RecordMap.{Records}
use Rattle.font_theory.specs.Content.{content, everything, is_kept, plain_font}
use Rattle.font_theory.specs.Cut.{content_of_all}
use Rattle.font_theory.specs.Difference.{are_different}
use Rattle.font_theory.specs.Agreement.{both}
use Rattle.font_theory.specs.Kinds.{format_by, format_of, full_settings, spelled_by}
use Rattle.font_theory.specs.declared.kinds.Kind.TheVariants.{Full}
use Rattle.font_theory.proofs.ContentLemmas.{parts-path}
use Rattle.font_theory.proofs.KindLemmas.{plain_font-full}
use Rattle.font_join.specs.Union.{is_other, listed_outline}
use Rattle.font_join.proofs.FirstLemmas.{first_none}
use Rattle.font_join.proofs.FrameLemmas.{undivided_spelled}

-- nothing differs from nothing
pub none_other : (outlines : List (Option (List ℕ))) (L : Records) (n : ℕ)
    → ((g : ℕ) → listed_outline outlines g ≡ None) → find (is_other (listed_outline outlines) L) (range_with_len 0 n)
    ≡ None
none_other outlines L n none =
    let all : n - 0 ≡ n = omega arith in
    ap (λ (k : ℕ). find (is_other (listed_outline outlines) L) (range_with_len 0 k)) (sym all)
    ∙ first_none (is_other (listed_outline outlines) L) n 0
    (λ g low. ap (λ (o : Option (List ℕ)). are_different o (L g) false) (none g))

abbrev nothing : List ℕ
nothing = []

-- the content of two files, of which a join is made
pub both_whole : (x y : List ℕ)
    → spelled_by Full (both (content_of_all (format_of Full) x) (content_of_all (format_of Full) y))
    ≡ both (content (plain_font x) everything) (content (plain_font y) everything)
unfolding full_settings format_by
both_whole x y =
    (λ i. spelled_by Full (both (content (plain_font-full x i) everything) (content (plain_font-full y i) everything)))
    ∙ (λ i. record {
      copied = undivided_spelled Full refl
          (both (content (plain_font x) everything) (content (plain_font y) everything)) i;
      head = (plain_font x).head;
      map = (both (content (plain_font x) everything) (content (plain_font y) everything)).map;
      outline = (both (content (plain_font x) everything) (content (plain_font y) everything)).outline;
      parts = sym (parts-path (none_both x y)) i;
      there = (both (content (plain_font x) everything) (content (plain_font y) everything)).there;
    })
  where
    none_both : (x y : List ℕ) (slot g : ℕ)
        → (both (content (plain_font x) everything) (content (plain_font y) everything)).parts slot g ≡ []
    none_both x y slot g = go (is_some ((content (plain_font x) everything).outline g))
        (is_kept (plain_font x) everything g)
        (is_kept (plain_font y) everything g)
      where
        go : (b u v : Bool) → cond b (cond u nothing nothing) (cond v nothing nothing) ≡ nothing
        go true true v = refl
        go true false v = refl
        go false u true = refl
        go false u false = refl
