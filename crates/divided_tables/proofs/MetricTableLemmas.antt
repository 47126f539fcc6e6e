-- Tables of metrics that are made anew.
use Rattle.std.proofs.Common.{◌≡◌, ℕ, ◌<◌, ◌||◌, cond, Bool, true, false, List, [], Option, None, Some, is_some, sym}
use Rattle.std.proofs.Common.{◌∙◌, ap, inl, inr, subst, MatchOption}
use Rattle.std.specs.Cmp.{both_ways}
use Rattle.std.specs.Str.{bytes_eq}
use Rattle.std.proofs.lemmas.Slice.Eq.{bytes_eq-Decides}
use Rattle.std.specs.Option.{option_map, option_or, unwrap_or}
use Rattle.std.proofs.Math.Path.{fun_ext}
use Rattle.font_tables.specs.Fields.{number_of_h_metrics}
use Rattle.font_tables.specs.Refusals.{is_bad_hhea, is_bad_hmtx}
use Rattle.font_theory.specs.Content.{Content, glyph_count, table_in_slot}
use Rattle.font_theory.specs.Kinds.{reduced}
use Rattle.font_theory.specs.Parted.{bare, blank, cleared, laid, metric_bytes, metrics, pairs_in, pairs_of}
use Rattle.font_theory.specs.Parting.{Tables, context, frames, may_divide, parts_of}
use Rattle.font_theory.proofs.HeldLemmas.{cases_option}
use Rattle.font_theory.proofs.PartLemmas.{parts_of-at, parts_of-none}
use Rattle.font_theory.proofs.WordLemmas.{bare-same, count-context, map_alike, metrics-reduced, table_is}
use Rattle.font_theory.proofs.EntryLemmas.{length-metric_bytes}
use Rattle.divided_tables.specs.OpenMetrics.{IsMetricsIn, OpenMetrics, metrics_parts, own_metrics}
use Rattle.divided_tables.specs.PartedTable.{ArePartsIn, alone}
use Rattle.divided_tables.proofs.FilledLemmas.{cleared-none}
use Rattle.divided_tables.proofs.FourLemmas.{nothing_bare}

-- how many pairs there are
pub pairs_read : (copied : ℕ → Option (List ℕ)) (h b count pairs : ℕ) (header table : List ℕ)
    → table ≡ table_in_slot copied b → header ≡ table_in_slot copied h → count ≡ glyph_count copied
    → pairs ≡ cond (is_bad_hhea header count || is_bad_hmtx table (number_of_h_metrics header) count) 0
    (number_of_h_metrics header) → pairs ≡ pairs_in copied h b
unfolding pairs_of
pairs_read copied h b count pairs header table there head n is =
    is ∙ (λ i. cond (is_bad_hhea (head i) (n i) || is_bad_hmtx (there i) (number_of_h_metrics (head i)) (n i)) 0
    (number_of_h_metrics (head i)))

pairs_same : (copied : ℕ → Option (List ℕ)) (h b count pairs : ℕ) (header table : List ℕ) → copied b ≡ Some table
    → unwrap_or (copied h) [] ≡ header → count ≡ glyph_count copied
    → pairs ≡ cond (is_bad_hhea header count || is_bad_hmtx table (number_of_h_metrics header) count) 0
    (number_of_h_metrics header) → pairs ≡ pairs_in copied h b
pairs_same copied h b count pairs header table there head n is =
    pairs_read copied h b count pairs header table (table_is copied b table there) (sym head) n is

-- a table of metrics that was made blank
pub blank_made : (copied : ℕ → Option (List ℕ)) (h b count pairs : ℕ) (header table bytes : List ℕ)
    → copied b ≡ Some table → unwrap_or (copied h) [] ≡ header → count ≡ glyph_count copied
    → pairs ≡ cond (is_bad_hhea header count || is_bad_hmtx table (number_of_h_metrics header) count) 0
    (number_of_h_metrics header)
    → bytes ≡ blank pairs count table → Some bytes ≡ option_map (blank (pairs_in copied h b) (glyph_count copied))
    (copied b)
blank_made copied h b count pairs header table bytes there head n is made =
    ap Some made ∙ (λ i. Some (blank (pairs_same copied h b count pairs header table there head n is i) (n i) table))
    ∙ sym (ap (option_map (blank (pairs_in copied h b) (glyph_count copied))) there)

-- a table of metrics that is cleared for the marked glyphs, where these are the kept ones
pub cleared_for : (copied : ℕ → Option (List ℕ)) (h b count pairs : ℕ) (header table bytes : List ℕ) (marks keeps : ℕ
    → Bool) → copied b ≡ Some table → unwrap_or (copied h) [] ≡ header
    → count ≡ glyph_count copied
    → pairs ≡ cond (is_bad_hhea header count || is_bad_hmtx table (number_of_h_metrics header) count) 0
    (number_of_h_metrics header)
    → bytes ≡ cleared marks pairs (glyph_count copied) table → ((g : ℕ) → marks g ≡ keeps g)
    → Some bytes ≡ option_map (cleared keeps (pairs_in copied h b) (glyph_count copied)) (copied b)
cleared_for copied h b count pairs header table bytes marks keeps there head n is made same =
    ap Some made ∙ (λ i. Some (cleared (fun_ext same i) (pairs_same copied h b count pairs header table there head n is
    i) (glyph_count copied) table))
    ∙ sym (ap (option_map (cleared keeps (pairs_in copied h b) (glyph_count copied))) there)

-- a table of metrics that its header does not describe stays
pub cleared_nowhere : (copied : ℕ → Option (List ℕ)) (h b count pairs : ℕ) (header table : List ℕ) (keeps : ℕ → Bool)
    → copied b ≡ Some table → unwrap_or (copied h) [] ≡ header → count ≡ glyph_count copied
    → pairs ≡ cond (is_bad_hhea header count || is_bad_hmtx table (number_of_h_metrics header) count) 0
    (number_of_h_metrics header) → pairs ≡ 0
    → copied b ≡ option_map (cleared keeps (pairs_in copied h b) (glyph_count copied)) (copied b)
cleared_nowhere copied h b count pairs header table keeps there head n is none =
    let zero : pairs_in copied h b ≡ 0 = sym (pairs_same copied h b count pairs header table there head n is) ∙ none in
    there ∙ sym (ap (option_map (cleared keeps (pairs_in copied h b) (glyph_count copied))) there
    ∙ ap Some (ap (λ (k : ℕ). cleared keeps k (glyph_count copied) table) zero
    ∙ cleared-none keeps (glyph_count copied) table))

-- a table that may be missing, read as an empty one
pub or_empty : {X : Type 0} (bytes : X → List ℕ) (o : Option X) (d read : X) (table : Option (List ℕ))
    → MatchOption o (table ≡ None) (λ x. table ≡ Some (bytes x)) → read ≡ unwrap_or o d → bytes d ≡ []
    → unwrap_or table [] ≡ bytes read
or_empty bytes None d read table none is nil = ap (λ t. unwrap_or t []) none ∙ sym (ap bytes is ∙ nil)
or_empty bytes (Some x) d read table some is nil = ap (λ t. unwrap_or t []) some ∙ sym (ap bytes is)

-- a table of metrics in the words of divided tables, where its header is in a table that is not divided
module _ (h slot : ℕ) (whole : may_divide h ≡ false) (c : Tables) where
  header-context : context c h ≡ c h
  unfolding context
  header-context = ap (λ b. cond b None (c h)) whole

  pairs-context : (t : List ℕ) → pairs_of (context c) h t ≡ pairs_of c h t
  unfolding pairs_of
  pairs-context t = λ i. cond (is_bad_hhea (unwrap_or (header-context i) []) (count-context c i)
      || is_bad_hmtx t (number_of_h_metrics (unwrap_or (header-context i) [])) (count-context c i)) 0
      (number_of_h_metrics (unwrap_or (header-context i) []))

  pairs-there : (t : List ℕ) → c slot ≡ Some t → pairs_of (context c) h t ≡ pairs_in c h slot
  pairs-there t e = pairs-context t ∙ ap (pairs_of c h) (table_is c slot t e)

  pub metrics_framed : option_map (blank (pairs_in c h slot) (glyph_count c)) (c slot)
      ≡ frames (alone (metrics h)) c slot
  unfolding frames metrics
  metrics_framed = sym (map_alike _ _ (c slot) (λ t e. λ i. laid (λ _. []) (pairs-there t e i) (count-context c i) t))

  pub metrics_part : (m : OpenMetrics) → IsMetricsIn c h slot m → (g : ℕ) → g < glyph_count c
      → bare (own_metrics m g) ≡ parts_of (alone (metrics h)) c slot g
  unfolding metrics
  metrics_part m is g low =
      (λ i. bare (metric_bytes (is.pairs_are i) (is.bytes_are i) g))
      ∙ elim (cases_option (c slot)) [
        | inl none ↦
            ap (λ (o : Option (List ℕ)). bare (metric_bytes (pairs_in c h slot) (unwrap_or o []) g)) none
            ∙ nothing_bare (pairs_in c h slot) g ∙ sym (parts_of-none (alone (metrics h)) c slot g none)
        | inr w ↦ sym (parts_of-at (alone (metrics h)) c slot g w.0 low w.1
            ∙ (λ i. bare (metric_bytes (pairs-there w.0 w.1 i) (table_is c slot w.0 w.1 i) g)))
      ]

  pub metrics_parts_are : (m : OpenMetrics) → IsMetricsIn c h slot m
      → ArePartsIn (metrics h) slot c (metrics_parts m)
  metrics_parts_are m is = record {
    count_is = is.count_is;
    parts_are = λ g low. metrics_part m is g (subst (λ (n : ℕ). g < n) is.count_is low);
  }

pub metrics_kept : (h slot : ℕ) → may_divide h ≡ false → (K : Content)
    → option_map (cleared (λ g. is_some (K.outline g)) (pairs_in K.copied h slot) (glyph_count K.copied))
    (K.copied slot)
    ≡ (reduced (alone (metrics h)) K).copied slot
unfolding reduced
metrics_kept h slot whole K = sym (map_alike _ _ (K.copied slot) (λ t e.
    metrics-reduced h (context K.copied) (λ g. is_some (K.outline g)) t
    ∙ (λ i. cleared (λ g. is_some (K.outline g)) (pairs-there h slot whole K.copied t e i)
    (count-context K.copied i) t)))

-- the same bytes are the same part
pub bare_eq : (a b : List ℕ) → bytes_eq a b ≡ true → bytes_eq (bare a) (bare b) ≡ true
bare_eq a b t = (bytes_eq-Decides (bare a) (bare b)).1 (ap bare ((bytes_eq-Decides a b).0 t))

pub same_bare : (m n : OpenMetrics) (g : ℕ) → bytes_eq (own_metrics m g) (own_metrics n g)
    ≡ bytes_eq (bare (own_metrics m g)) (bare (own_metrics n g))
same_bare m n g = both_ways _ _ (bare_eq (own_metrics m g) (own_metrics n g)) (λ t.
    (bytes_eq-Decides _ _).1 (bare-same (own_metrics m g) (own_metrics n g) (length-metric_bytes m.pairs m.bytes g)
    (length-metric_bytes n.pairs n.bytes g) ((bytes_eq-Decides _ _).0 t)))

-- what is made of a table by the slots of its header and of itself
module _ (h h' slot slot' : ℕ) (head : h' ≡ h) (own : slot' ≡ slot) (whole : may_divide h ≡ false) where
  pub kept_as : (K : Content) (made : Option (List ℕ)) → option_or made (K.copied slot')
      ≡ option_map (cleared (λ g. is_some (K.outline g)) (pairs_in K.copied h' slot') (glyph_count K.copied))
      (K.copied slot') → option_or made (K.copied slot) ≡ (reduced (alone (metrics h)) K).copied slot
  kept_as K made e =
      (λ i. option_or made (K.copied (sym own i))) ∙ e
      ∙ (λ i. option_map (cleared (λ g. is_some (K.outline g)) (pairs_in K.copied (head i) (own i))
      (glyph_count K.copied)) (K.copied (own i)))
      ∙ metrics_kept h slot whole K

  pub framed_as : (c : Tables) (made : Option (List ℕ)) → made
      ≡ option_map (blank (pairs_in c h' slot') (glyph_count c)) (c slot') → made ≡ frames (alone (metrics h)) c slot
  framed_as c made e =
      e ∙ (λ i. option_map (blank (pairs_in c (head i) (own i)) (glyph_count c)) (c (own i)))
      ∙ metrics_framed h slot whole c
