-- The test of a record decides whether it is one.
use Rattle.std.proofs.Common.{◌≡◌, ℕ, Bool, true, false, ltb, List, Option, Some, None, refl, sym}
use Rattle.std.specs.List.{list_all}
use Rattle.std.specs.Option.{option_map_or}
use Rattle.std.proofs.lemmas.Bool.{lt-ltb, ltb-true}
use Rattle.std.proofs.lemmas.List.Sums.{AllPass-from_list_all, list_all-from_AllPass}
use Rattle.font_glyph.specs.Record.{IsRecord, components_of}
use Rattle.font_glyph.specs.declared.component.Component.{Component}
use Rattle.font_glyph.proofs.RecordLemmas.{components_of-is, components_of-tells}
use Rattle.font_file.specs.Font.{is_record}

abbrev is_below : ℕ → Component → Bool
is_below count component = ltb component.glyph count

pub is_record-of : (count : ℕ) (b : List ℕ) → IsRecord count b → is_record count b ≡ true
unfolding is_record IsRecord
is_record-of count b (list, is, below) =
    rw (components_of-is b list is) (list_all-from_AllPass (is_below count) list
    (λ k d inside. lt-ltb _ _ (below k d inside)))

pub is_record-tells : (count : ℕ) (b : List ℕ) → is_record count b ≡ true → IsRecord count b
unfolding is_record IsRecord
is_record-tells count b h = tells (components_of b) refl h
  where
    tells : (o : Option (List Component)) → components_of b ≡ o → option_map_or (list_all (is_below count)) o false
        ≡ true → IsRecord count b
    tells None e passes = cc
    tells (Some list) e passes = (
      list,
      components_of-tells b list e,
      λ k d inside. ltb-true _ _ (AllPass-from_list_all (is_below count) list passes k d inside),
    )

-- a test that holds exactly of records is this one
pub is_record-decided : (count : ℕ) (b : List ℕ) (test : Bool) → (test ≡ true → IsRecord count b)
    → (IsRecord count b → test ≡ true) → test ≡ is_record count b
is_record-decided count b true tells of = sym (is_record-of count b (tells refl))
is_record-decided count b false tells of = cases (is_record count b) refl
  where
    cases : (t : Bool) → is_record count b ≡ t → false ≡ t
    cases false e = refl
    cases true e = of (is_record-tells count b e)
