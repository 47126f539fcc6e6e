-- The codes that a font maps, and the font that a file is a cut of.
use Rattle.std.proofs.Common.{◌≡◌, ◌≢◌, ℕ, ◌+◌, ◌<◌, ◌≤◌, ◌&&◌, ◌||◌, ◌↔◌, nat_lt, Bool, true, false, cond, inl, inr}
use Rattle.std.proofs.Common.{IsTrue, List, None, refl, sym, ◌∙◌, ap, subst, arith}
use Rattle.std.proofs.Math.Path.{fun_ext}
use Rattle.std.proofs.lemmas.Bool.{cases_lt, lt-ltb}
use Rattle.std.proofs.lemmas.Bool.Decides.{nat_tests}
use Rattle.codes.specs.CharacterMap.{is_mapped, restricted}
use Rattle.codes.specs.Runs.{IsRun, NoRun}
use Rattle.codes.specs.Wanted.{codes_between, either, no_codes}
use Rattle.codes.specs.declared.runs.Run.{Run}
use Rattle.font_theory.specs.Content.{Content, Font, Wanted, content, everything, is_kept, of_codes, plain_font}
use Rattle.font_theory.specs.Content.{wanted_within}
use Rattle.font_theory.specs.Cut.{Format, IsFormat, Under, Writes, our_format, wanted_of}
use Rattle.font_theory.specs.Kinds.{fault_of, format_by, format_of}
use Rattle.font_theory.specs.declared.kinds.Kind.{Kind}
use Rattle.font_theory.proofs.ContentLemmas.{content-all, content-mapped, content-none}
use Rattle.font_theory.proofs.CutLemmas.{font-cut, wanted_of-accepted}
use Rattle.font_theory.proofs.KindLemmas.{full-is, kind_is}
use Rattle.font_subset.specs.Inside.{AreMappedTo}
use Rattle.font_subset.specs.CutOfKind.{IsCutIn, own_of}
use Rattle.font_subset.specs.CutOfFont.{IsCutForSome}
use Rattle.font_theory.specs.declared.kinds.Kind.TheVariants.{Full}

-- on one code: its glyph, and whether it is in the set
beside : (x from first last c : ℕ) (b : Bool) → from ≤ first → first ≤ last → b ≡ (nat_lt c from && nat_lt 0 x)
    → (from ≤ c → c < first → x ≡ 0) → (first ≤ c → c ≤ last → 0 < x) → (codes_between first last c || b)
    ≡ (nat_lt c (last + 1) && nat_lt 0 x)
beside x from first last c b on order is gap all =
    elim (cases_lt c from) [
      | inl low ↦ grind (arith, nat_tests)
      | inr high ↦ elim (cases_lt c first) [
        | inl below ↦ let z : x ≡ 0 = gap high below in grind (arith, nat_tests)
        | inr at ↦ elim (cases_lt last c) [
          | inl past ↦ grind (arith, nat_tests)
          | inr wanted_within ↦ let some : 0 < x = all at wanted_within in grind (arith, nat_tests)
        ]
      ]
    ]

-- the set of the mapped codes, run by run
pub mapped_start : (m : ℕ → ℕ) (w : ℕ → Bool) → w ≡ no_codes → AreMappedTo m 0 w
mapped_start m w none c =
    let below : nat_lt c 0 ≡ false = grind (arith, nat_tests) in
    ap (λ (v : ℕ → Bool). v c) none ∙ sym (ap (λ (b : Bool). b && is_mapped m c) below)

pub mapped_more : (m : ℕ → ℕ) (from : ℕ) (run : Run) (old new : ℕ → Bool) → IsRun m from run → AreMappedTo m from old
    → new ≡ either (codes_between run.first run.last) old
    → AreMappedTo m (run.last + 1) new
mapped_more m from run old new is before added c =
    ap (λ (v : ℕ → Bool). v c) added
    ∙ beside (m c) from run.first run.last c (old c) is.piece.from_on is.piece.order (before c) (is.piece.least c)
    (λ low high. omega (arith, is.piece.along c low high, is.piece.mapped, low))

pub mapped_end : (m : ℕ → ℕ) (from : ℕ) (w : ℕ → Bool) → NoRun m from → AreMappedTo m from w → w ≡ is_mapped m
mapped_end m from w none are = fun_ext (λ c. are c ∙ go c)
  where
    go : (c : ℕ) → (nat_lt c from && is_mapped m c) ≡ is_mapped m c
    go c =
        elim (cases_lt c from) [
          | inl low ↦ ap (λ (b : Bool). b && is_mapped m c) (lt-ltb c from low)
          | inr high ↦ let z : m c ≡ 0 = none c high in grind (arith, nat_tests)
        ]

-- a cut is the cut for the codes that it maps and the glyphs that are there
module _ (R : Format) (law : IsFormat R) where
  same_mapped : (a : Bool) (g : ℕ) → g ≢ 0 → nat_lt 0 (cond a g 0) ≡ (a && true)
  same_mapped true g some = lt-ltb 0 g (omega (arith, some))
  same_mapped false g some = refl

  pub Under-cut : (X F : List ℕ) (A : Wanted) → R.fault X ≡ None → R.fault F ≡ None
      → Writes R (content (R.font F) A) X → Under R X F
  Under-cut X F A ok h w = record {
    accepted = h;
    written = subst (λ (K : Content). Writes R K X)
        (sym (ap (content (R.font F)) own ∙ content-mapped (R.font F) _ (wanted_within (R.font F) A everything)
        (law.is_font F h) (λ c some. same_mapped (A.codes c) ((R.font F).map c) some)
        (λ g there. ap (λ t. is_kept (R.font F) A g && t) there)
        ∙ content-all (R.font F) A (law.is_font F h)))
        w;
  }
    where
      own : wanted_of R X ≡ record {
        codes = is_mapped (restricted A.codes (R.font F).map);
        glyphs = λ g. is_kept (R.font F) A g && (R.font F).there g;
      }
      own = wanted_of-accepted R law X ok
          ∙ ap (λ (G : Font). record { codes = is_mapped G.map; glyphs = G.there })
          (font-cut R law F h A X w (law.accepted_size X ok))

-- in words
wanted_of_kind : (kind : Kind) (file : List ℕ) → fault_of kind file ≡ None → wanted_of (format_of kind) file
    ≡ own_of kind file
unfolding format_by
wanted_of_kind kind file accepted = wanted_of-accepted (format_of kind) (kind_is kind).law file accepted

module _ (kind : Kind) (b : Bool) (made font : List ℕ) (ok : fault_of kind made ≡ None) (accepted : fault_of kind font
    ≡ None)
    (is : IsTrue b ↔ Writes (format_of kind) (content ((format_of kind).font font) (own_of kind made)) made)
  where
    abbrev R : Format
    R = format_of kind

    pub is_under : IsTrue b ↔ Under R made font
    is_under =
        let e = wanted_of_kind kind made ok in (
          λ t. record {
            accepted = (kind_is kind).fault_is font
                ∙ accepted;
            written = subst (λ (v : Wanted). Writes R (content (R.font font) v) made) (sym e) (is.0 t);
          },
          λ u. is.1 (subst (λ (v : Wanted). Writes R (content (R.font font) v) made) e u.written),
        )

    pub is_cut_for_some : IsTrue b ↔ IsCutIn kind font made
    is_cut_for_some = (
      λ t. (own_of kind made, is.0 t),
      λ w. (let v = w in
          is_under.1 (Under-cut R (kind_is kind).law made font v.0 ((kind_is kind).fault_is made
          ∙ ok) ((kind_is kind).fault_is font ∙ accepted) v.1)),
    )

our_font : (X : List ℕ) → our_format.font X ≡ plain_font X
unfolding our_format
our_font X = refl

-- a full cut is one for codes alone
pub is_cut_of_codes : (font made : List ℕ) → fault_of Full font ≡ None → IsCutIn Full font made
    ↔ IsCutForSome font made
is_cut_of_codes font made accepted = (
  λ w. (let v = w in (v.0.codes, subst (λ (K : Content). Writes (format_of Full) K made) (same v.0) v.1)),
  λ w. (let v = w in (of_codes v.0, v.1)),
)
  where
    full_font : (format_of Full).font font ≡ plain_font font
    full_font = ap (λ (R : Format). R.font font) full-is ∙ our_font font

    same : (W : Wanted) → content ((format_of Full).font font) W
        ≡ content ((format_of Full).font font) (of_codes W.codes)
    same W = content-none ((format_of Full).font font) W
        ((kind_is Full).law.is_font font ((kind_is Full).fault_is font ∙ accepted))
        (λ g. ap (λ (F : Font). F.there g) full_font)
