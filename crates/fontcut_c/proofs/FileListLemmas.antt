-- The files of many sources: counted, and put end to end into room.
use Rattle.std.proofs.Common.{◌≡◌, ℕ, ◌+◌, ◌-◌, ◌^◌, ◌<◌, ◌≤◌, min, List, [], ◌∷◌, ◌++◌, drop, get_or, length, map, set}
use Rattle.std.proofs.Common.{take, append-nil, append_assoc, below_more, drop-drop, drop_at, length-append}
use Rattle.std.proofs.Common.{take-append-drop, take_at, ap, sym, subst, ◌∙◌, arith}
use Rattle.std.proofs.lemmas.List.{get_or-map, length-map, map_more, take_more, take_more_set}
use Rattle.std.proofs.lemmas.List.Folds.{concat-append}
use Rattle.std.specs.List.{concat}
use Rattle.sfnt_bytes.specs.declared.directory.TheConstants.{MAX_FILE}
use Rattle.fontcut_c.specs.ManyCuts.{AreSmallFiles}
use Rattle.fontcut_c.specs.Inside.{AreMeasured, ArePut, IsPutAt}

-- a sum that is cut off, and more
capped : (a b most : ℕ) → min (min a most + b) most ≡ min (a + b) most
capped a b most = omega arith

module _ (files : List (List ℕ)) (n : ℕ) (low : n < length files) where
  concat_more : concat (take (n + 1) files) ≡ concat (take n files) ++ get_or files n []
  concat_more =
      ap (λ (l : List (List ℕ)). concat l) (take_more files n [] low)
      ∙ (concat-append (take n files) (get_or files n [] ∷ [])
      ∙ ap (λ (b : List ℕ). concat (take n files) ++ b) (append-nil (get_or files n [])))

  longer : length (concat (take (n + 1) files)) ≡ length (concat (take n files)) + length (get_or files n [])
  longer = ap (λ (b : List ℕ). length b) concat_more ∙ length-append (concat (take n files)) (get_or files n [])

  within : length (concat (take (n + 1) files)) ≤ length (concat files)
  within =
      let parts = concat-append (take (n + 1) files) (drop (n + 1) files) in
      let all = ap (λ (l : List (List ℕ)). length (concat l)) (take-append-drop (n + 1) files) in
      let both = ap (λ (b : List ℕ). length b) parts in
      omega (arith, all, both, length-append (concat (take (n + 1) files)) (concat (drop (n + 1) files)))

  counted_one : (total : ℕ) → AreMeasured files n total → length (get_or files n []) ≤ MAX_FILE
      → AreMeasured files (n + 1) (min (total + length (get_or files n [])) (2 ^ 64 - 1))
  counted_one total counted small =
      record {
        small = below_more (λ k. length (get_or files k []) ≤ MAX_FILE) n counted.small small;
        total_is =
            ap (λ (t : ℕ). min (t + length (get_or files n [])) (2 ^ 64 - 1)) counted.total_is
            ∙ (capped (length (concat (take n files))) (length (get_or files n [])) (2 ^ 64 - 1)
            ∙ ap (λ (size : ℕ). min size (2 ^ 64 - 1)) (sym longer));
      }

  put_one : (at : ℕ) (old new more sizes : List ℕ) → ArePut files n at old new sizes → n < length sizes
      → more ≡ take at new ++ (get_or files n [] ++ drop (length (get_or files n [])) (drop at new))
      → ArePut files (n + 1) (at + length (get_or files n [])) old more (set sizes n (length (get_or files n [])))
  put_one at old new more sizes put room is =
      let front = concat (take n files) in
      let file = get_or files n [] in
      let head : take at new ≡ front = ap (λ (b : List ℕ). take at b) put.front
      ∙ take_at front (drop at old) at (sym put.at_is) in
      let back : drop at new ≡ drop at old = ap (λ (b : List ℕ). drop at b) put.front
      ∙ drop_at front (drop at old) at (sym put.at_is) in
      record {
        at_is = ap (λ (k : ℕ). k + length file) put.at_is ∙ sym longer;
        front =
            is
            ∙ (ap (λ (b : List ℕ). b ++ (file ++ drop (length file) (drop at new))) head
            ∙ (ap (λ (b : List ℕ). front ++ (file ++ drop (length file) b)) back
            ∙ (ap (λ (b : List ℕ). front ++ (file ++ b)) (drop-drop (length file) at old)
            ∙ (sym (append_assoc front file (drop (at + length file) old))
            ∙ ap (λ (b : List ℕ). b ++ drop (at + length file) old) (sym concat_more)))));
        sizes_are =
            take_more_set sizes n (length file) room
            ∙ (ap (λ (l : List ℕ). l ++ length file ∷ []) put.sizes_are
            ∙ sym (map_more (λ (b : List ℕ). length b) files n [] low));
      }

-- the same of the files of sources
module _ {S : Type 0} (f : S → List ℕ) (sources : List S) (n : ℕ) (source : S) (low : n < length sources)
    (is : source ≡ get_or sources n source) where
  file_at : get_or (map f sources) n [] ≡ f source
  file_at = get_or-map f sources n source [] low ∙ ap f (sym is)

  low_file : n < length (map f sources)
  low_file = let same = length-map sources f in omega (arith, same, low)

  pub counted_more : (total size : ℕ) → AreMeasured (map f sources) n total → size ≡ length (f source) → size ≤ MAX_FILE
      → AreMeasured (map f sources) (n + 1) (min (total + size) (2 ^ 64 - 1))
  counted_more total size counted e small =
      let same : length (get_or (map f sources) n []) ≡ size = ap (λ (b : List ℕ). length b) file_at ∙ sym e in
      subst (λ (k : ℕ). AreMeasured (map f sources) (n + 1) (min (total + k) (2 ^ 64 - 1))) same
      (counted_one (map f sources) n low_file total counted (omega (arith, same, small)))

  pub small_file : AreSmallFiles (map f sources) → length (f source) ≤ MAX_FILE
  small_file small = subst (λ (b : List ℕ). length b ≤ MAX_FILE) file_at (small n low_file)

  pub next_fits : (at room : ℕ) (old new sizes : List ℕ) → ArePut (map f sources) n at old new sizes
      → length (concat (map f sources)) ≤ room
      → at + length (f source) ≤ room
  next_fits at room old new sizes put fits =
      let same = ap (λ (b : List ℕ). length b) file_at in
      omega (arith, same, put.at_is, longer (map f sources) n low_file, within (map f sources) n low_file, fits)

  pub put_more : (at size : ℕ) (old new more sizes : List ℕ) → ArePut (map f sources) n at old new sizes
      → n < length sizes
      → IsPutAt (f source) at new more size → ArePut (map f sources) (n + 1) (at + size) old more (set sizes n size)
  put_more at size old new more sizes put room is =
      let same : length (get_or (map f sources) n []) ≡ size = ap (λ (b : List ℕ). length b) file_at ∙ sym is.size_is in
      let placed : more ≡ take at new ++ (get_or (map f sources) n [] ++ drop (length (get_or (map f sources) n []))
      (drop at new)) =
      is.put ∙ (ap (λ (b : List ℕ). take at new ++ (b ++ drop size (drop at new))) (sym file_at)
      ∙ ap (λ (k : ℕ). take at new ++ (get_or (map f sources) n [] ++ drop k (drop at new))) (sym same)) in
      subst (λ (k : ℕ). ArePut (map f sources) (n + 1) (at + k) old more (set sizes n k)) same
      (put_one (map f sources) n low_file at old new more sizes put room placed)
