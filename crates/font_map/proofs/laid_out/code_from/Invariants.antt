use Rattle.std.proofs.Common.{get_or}
use Rattle.codes.specs.CharacterMap.{IsUnmapped}
use Rattle.font_map.proofs.laid_out.code_from.Given as goal

abbrev pub invariant-loop-code : goal.invariant-loop-code
invariant-loop-code l = IsUnmapped (λ c. get_or l.glyphs c 0) l.from l.code
