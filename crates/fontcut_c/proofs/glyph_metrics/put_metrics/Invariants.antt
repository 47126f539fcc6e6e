use Rattle.std.proofs.Common.{◌≡◌, drop, length, take}
use Rattle.fontcut_c.specs.Glyphs.{metrics_of}
use Rattle.fontcut_c.proofs.glyph_metrics.put_metrics.Given as goal

-- the metrics of the glyphs so far are written, and what stands after the place of the last one is as it was
abbrev pub invariant-loop-index : goal.invariant-loop-index
invariant-loop-index l =
    let n = length l.glyphs in
    (take l.index l.out ≡ metrics_of l.font (take l.index l.glyphs)) × (drop n l.out ≡ drop n l.initial.out)
    × (length l.out ≡ length l.initial.out)
