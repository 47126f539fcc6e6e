-- What a closed cut of a file has of the glyphs of a run.
use Rattle.std.proofs.Common.{◌≡◌, ℕ, ◌<◌, ◌≤◌, Bool, true, false, cond, ◌&&◌, inl, inr, List, [], set}
use Rattle.std.proofs.Common.{length, refl, sym, ap, subst, ◌∙◌, ◌⊎◌, nat_eq, arith, Option, Some, None, unwrap_or}
use Rattle.std.specs.List.{All, Contains}
use Rattle.std.proofs.lemmas.Bool.{both_ways, cases_Bool, cases_lt, eqb-true, lt-ltb}
use Rattle.std.proofs.lemmas.List.Elements.{All-contains, All-drop, All-nil, All-set, All-take}
use Rattle.sfnt_bytes.specs.Directory.{slot_tag, table_entry, table_of}
use Rattle.sfnt_bytes.specs.Lines.{when}
use Rattle.sfnt_bytes.specs.declared.directory.TheConstants.{MAX_FILE}
use Rattle.sfnt_bytes.specs.declared.tag.TheConstants.{GSUB}
use Rattle.font_file.specs.Font.{map_of}
use Rattle.font_layout.specs.Cleaning.{field_at, fixed, has_field, with_zeros}
use Rattle.font_glyph.specs.Reach.{IsComponentOf, Reach}
use Rattle.font_glyph.specs.Reach.Reach.{seed, part}
use Rattle.font_theory.specs.Bytes.{padded}
use Rattle.font_theory.specs.Closed.{closed, is_bad_layout_in, is_start}
use Rattle.font_theory.specs.Content.{Content, Font, IsFont, Wanted, content, glyph_count, is_kept, read_back}
use Rattle.font_theory.specs.Content.{table_in_slot}
use Rattle.font_theory.specs.Cut.{cut}
use Rattle.font_theory.specs.Kinds.{AreSettings, Reading, Settings, fault_by, font_by, format_by, has_record, read_by}
use Rattle.font_theory.specs.Kinds.{reduced, tables_by, there_by}
use Rattle.font_theory.specs.Kinds.Reading.{absent, as_it_is, unvarying}
use Rattle.font_theory.specs.Links.{is_unreadable_gsub, links}
use Rattle.font_theory.specs.Parting.{parts_of}
use Rattle.font_theory.proofs.ContentLemmas.{read_back-reached}
use Rattle.font_theory.proofs.HeldLemmas.{component-nil}
use Rattle.font_theory.proofs.KindFileLemmas.{font_by-cut}
use Rattle.font_theory.proofs.PartLemmas.{parts_of-none}
use Rattle.font_theory.proofs.SettingsLemmas.{IsFont-by}
use Rattle.font_theory.proofs.WantedLemmas.{IsKept, is_kept-decides, is_root-there}
use Rattle.font_theory.proofs.WordLemmas.{parts-reduced, reduced-undivided}
use Rattle.substitutions.specs.Shaping.{BecomesInSteps}
use Rattle.substitutions.proofs.ClosureLemmas.{run_wanted}
use Rattle.substitutions.proofs.ReadLemmas.{option_cases}
use Rattle.font_theory.specs.Difference.{PARTED}
use Rattle.font_theory.proofs.ClosedLemmas.{past_parted, record-tells}

abbrev AreBytes : List ℕ → Type 0
AreBytes = All (λ byte. byte < 256)

-- the bytes of a table are those of its file
read-bytes : (r : Reading) (slot : ℕ) (o : Option (List ℕ)) → AreBytes (unwrap_or o [])
    → AreBytes (unwrap_or (read_by r slot o) [])
unfolding fixed
read-bytes absent slot o bytes = All-nil _
read-bytes as_it_is slot o bytes = bytes
read-bytes unvarying slot None bytes = All-nil _
read-bytes unvarying slot (Some table) bytes = go (has_field slot table)
  where
    put : (xs : List ℕ) (k : ℕ) → AreBytes xs → AreBytes (set xs k 0)
    put xs k all = All-set (λ byte. byte < 256) xs k 0 (omega arith) all

    zeros : (at : ℕ) → AreBytes (with_zeros at table)
    zeros at = put _ _ (put _ _ (put _ _ (put table at bytes)))

    go : (b : Bool) → AreBytes (cond b (with_zeros (field_at slot) table) table)
    go true = zeros (field_at slot)
    go false = bytes

table-bytes : (file : List ℕ) (slot : ℕ) → AreBytes file → AreBytes (unwrap_or (table_of file (slot_tag slot)) [])
unfolding table_of
table-bytes file slot bytes =
    elim (option_cases (table_entry file (slot_tag slot))) [
      | inl none ↦ rw none (All-nil _)
      | inr entry ↦
          let is = entry.1 in
          rw is (All-take (λ byte. byte < 256) _ _ (All-drop (λ byte. byte < 256) _ _ bytes))
    ]

pub gsub_bytes-are : (s : Settings) (file : List ℕ) → All (λ byte. byte < 256) file
    → All (λ byte. byte < 256) (table_in_slot (tables_by s file) GSUB)
gsub_bytes-are s file bytes =
    read-bytes (s.reading GSUB) GSUB (table_of file (slot_tag GSUB)) (table-bytes file GSUB bytes)

padded-nil : [] ≡ padded []
unfolding padded
padded-nil = refl

module _ (s : Settings) (is : AreSettings s) (X : List ℕ) (accepted : fault_by s X ≡ None)
    (readable : is_bad_layout_in (tables_by s X) ≡ false) (bytes : AreBytes X) (by : s.by_number ≡ true) where
  abbrev gsub : List ℕ
  gsub = table_in_slot (tables_by s X) GSUB

  abbrev F : Font
  F = font_by s X

  ok : IsFont F
  ok = IsFont-by s is X accepted

  gsub-bytes : AreBytes gsub
  gsub-bytes = gsub_bytes-are s X bytes

  gsub-readable : is_unreadable_gsub gsub ≡ false
  unfolding is_bad_layout_in
  gsub-readable = readable

  -- what has nothing needs nothing
  blank : (g : ℕ) → g < glyph_count F.copied → F.there g ≡ false → (F.outline g ≡ [])
      × ((slot : ℕ) → parts_of s.partition F.copied slot g ≡ [])
  unfolding there_by
  blank g low gone =
      let nothing : has_record (F.outline g) (λ slot. parts_of s.partition F.copied slot g) ≡ false =
      sym ((λ i. by i && (lt-ltb g (glyph_count F.copied) low i
      && has_record (F.outline g) (λ slot. parts_of s.partition F.copied slot g)))) ∙ gone in
      let told = record-tells (F.outline g) (λ slot. parts_of s.partition F.copied slot g) nothing in (
        told.0,
        λ slot. elim (cases_lt slot PARTED) [
          | inl few ↦ told.1 slot few
          | inr past ↦ parts_of-none s.partition F.copied slot g (ok.slots slot (past_parted slot past))
        ],
      )

  module _ (W : Wanted) (list last : List ℕ) (run : BecomesInSteps gsub list last)
      (wanted : All (λ g. is_start (map_of X) W g ≡ true) list) where
    abbrev V : Wanted
    V = closed (links gsub) (map_of X) W

    abbrev Y : List ℕ
    Y = cut (format_by s) X V

    in_closure : (g : ℕ) → Contains last g → V.glyphs g ≡ true
    in_closure g has = All-contains (λ h. V.glyphs h ≡ true) last g
        (run_wanted gsub gsub-bytes gsub-readable (map_of X) W list last run wanted) has

    -- such a glyph is kept, or has nothing
    Lost : ℕ → Type 0
    Lost g = (g < glyph_count F.copied) × (F.there g ≡ false)

    kept_or_lost : (g : ℕ) → Contains last g → g < glyph_count F.copied → IsKept F V g ⊎ Lost g
    unfolding Lost
    kept_or_lost g has low =
        elim (cases_Bool (F.there g)) [
          | inl there ↦ inl (seed (is_root-there F V g (in_closure g has) there))
          | inr gone ↦ inr (low, gone)
        ]

    -- and so is what components lead to from there
    reached_kept_or_lost : (g h : ℕ) → Contains last g → g < glyph_count F.copied → Reach F.outline (nat_eq g) h
        → IsKept F V h ⊎ Lost h
    unfolding Lost
    reached_kept_or_lost g h has low (seed e) =
        subst (λ (x : ℕ). IsKept F V x ⊎ Lost x) (eqb-true g h e) (kept_or_lost g has low)
    reached_kept_or_lost g h has low (part {s = s} r c) =
        elim (reached_kept_or_lost g s has low r) [
          | inl kept ↦ inl (part kept c)
          | inr lost ↦ absurd (component-nil h (subst (λ (x : List ℕ). IsComponentOf x h) (blank s lost.0 lost.1).0 c))
        ]

    abbrev R : Content
    R = reduced s.partition (content F V)

    -- what is written has it then
    Has : ℕ → Type 0
    Has g = ((read_back R).outline g ≡ padded (F.outline g))
        × ((slot : ℕ) → parts_of s.partition R.copied slot g ≡ parts_of s.partition F.copied slot g)

    kept_has : (g : ℕ) → is_kept F V g ≡ true → Has g
    unfolding Has reduced
    kept_has g kept = (
      read_back-reached F V ok g ((is_kept-decides F V ok g).0 kept),
      λ slot. parts-reduced s.partition is.partition F ok V slot g
          ∙ ap (λ b. cond b (parts_of s.partition F.copied slot g) []) kept,
    )

    lost_has : (g : ℕ) → is_kept F V g ≡ false → Lost g → Has g
    unfolding Has Lost reduced
    lost_has g not_kept lost =
        let w = blank g lost.0 lost.1 in (
          ap (λ b. unwrap_or (when b (padded (F.outline g))) []) not_kept ∙ padded-nil ∙ sym (ap padded w.0),
          λ slot. parts-reduced s.partition is.partition F ok V slot g
              ∙ ap (λ b. cond b (parts_of s.partition F.copied slot g) []) not_kept ∙ sym (w.1 slot),
        )

    has_all : (g : ℕ) → IsKept F V g ⊎ Lost g → Has g
    has_all g either =
        elim (cases_Bool (is_kept F V g)) [
          | inl kept ↦ kept_has g kept
          | inr not_kept ↦ elim either [
            | inl reached ↦ absurd (both_ways (is_kept F V g) not_kept ((is_kept-decides F V ok g).1 reached))
            | inr lost ↦ lost_has g not_kept lost
          ]
        ]

    pub shaped_kept : length Y ≤ MAX_FILE → (table_in_slot (tables_by s Y) GSUB ≡ gsub)
        × ((g h : ℕ) → Contains last g → g < glyph_count F.copied → Reach F.outline (nat_eq g) h
        → ((font_by s Y).outline h ≡ padded (F.outline h))
        × ((slot : ℕ) → parts_of s.partition (tables_by s Y) slot h ≡ parts_of s.partition (tables_by s X) slot h))
    unfolding Has
    shaped_kept small =
        let read = (font_by-cut s is X accepted V small).1 in (
          ap (λ (o : Option (List ℕ)). unwrap_or o []) (ap (λ (G : Font). G.copied GSUB) read
              ∙ reduced-undivided s.partition (content F V) GSUB (is.partition.others GSUB refl)),
          λ g h has low reach. let here = has_all h (reached_kept_or_lost g h has low reach) in (
            ap (λ (G : Font). G.outline h) read ∙ here.0,
            λ slot. ap (λ (G : Font). parts_of s.partition G.copied slot h) read ∙ here.1 slot,
          ),
        )
