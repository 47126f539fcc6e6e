use Rattle.std.proofs.Common.{◌≡◌, ◌+◌, ◌<◌, ◌≤◌, length, not}
use Rattle.std.specs.List.{AllByRecursion, count_by}
use Rattle.font_glyph.specs.Record.{glyphs_of}
use Rattle.font_glyph.specs.Closure.{marks_after, work_after}
use Rattle.font_glyph.proofs.closure.visit.Given as goal

abbrev pub invariant-loop-component : goal.invariant-loop-component
invariant-loop-component g l =
    record {
      small : AllByRecursion (λ c. c.glyph < length l.marks) l.component-iterator;
      marks : marks_after (glyphs_of l.component-iterator) l.marks ≡ marks_after (glyphs_of l.fn.components) l.fn.marks;
      work : work_after (glyphs_of l.component-iterator) l.marks l.work.items ≡ work_after (glyphs_of l.fn.components)
          l.fn.marks l.fn.work.items;
      count : length l.marks ≡ length l.fn.marks;
      room : count_by not l.marks + length l.work.items ≤ length l.fn.marks;
    }
