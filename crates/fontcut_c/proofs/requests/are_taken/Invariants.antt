use Rattle.std.proofs.Common.{◌≡◌, true, map, take}
use Rattle.std.specs.List.{list_all}
use Rattle.fontcut_c.specs.KindNumbers.{takes_glyphs}
use Rattle.fontcut_c.specs.Requests.{RawRequest, asked_by}
use Rattle.fontcut_c.proofs.requests.are_taken.Given as goal

-- the requests so far do
abbrev pub invariant-loop-index : goal.invariant-loop-index
invariant-loop-index l =
    list_all (λ (a : RawRequest). takes_glyphs l.kind a.glyphs) (take l.index (map asked_by l.requests)) ≡ true
