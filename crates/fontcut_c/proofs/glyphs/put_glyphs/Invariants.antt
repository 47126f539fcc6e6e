use Rattle.std.proofs.Common.{◌≡◌, drop, length, take}
use Rattle.fontcut_c.specs.Glyphs.{glyphs_of_codes}
use Rattle.fontcut_c.proofs.glyphs.put_glyphs.Given as goal

-- the glyphs of the codes so far are written, and what stands after the place of the last one is as it was
abbrev pub invariant-loop-index : goal.invariant-loop-index
invariant-loop-index l =
    let n = length l.codes in
    (take l.index l.out ≡ glyphs_of_codes l.font (take l.index l.codes)) × (drop n l.out ≡ drop n l.initial.out)
    × (length l.out ≡ length l.initial.out)
