use Rattle.std.proofs.Common.{◌≡◌, ◌≤◌, ◌∙◌, Bool, ℕ, List, None, Some, ap, length, option_copied, subst, sym}
use Rattle.font_theory.specs.Content.{Wanted}
use Rattle.font_theory.specs.declared.kinds.Kind.{Kind}
use Rattle.font_subset.specs.CutOfFont.{StopsCut}
use Rattle.font_subset.specs.CutOfKind.{opened_font_cut}
use Rattle.font_subset.specs.KeptGlyphs.{asked, wanted_in}
use Rattle.sfnt_bytes.specs.declared.directory.TheConstants.{MAX_FILE}
use Rattle.streams.specs.Outlet.{WentOut}
use Rattle.commands.specs.Run.{requested, requested_cut, run_error_of_cut, run_error_of_open, stray_number}
use Rattle.commands.specs.declared.run_error.RunError.TheVariants.{Write}
use Rattle.commands.proofs.HeldLemmas.{holds_of_font}
use Rattle.commands.proofs.RunLemmas.{cut_err, flush_stops, made_stops, open_stops, sends_end}
use Rattle.commands.proofs.subset.run_subset_of_font.Goals as goal

pub returns-in_err-opened-clause-sends : goal.returns-in_err-opened-clause-sends
returns-in_err-opened-clause-sends g c =
    let r = requested c.args.request.now in
    let error = c.in_err-opened.field-0.0 in
    cut_err r g.W.Write.contents c.args.font.now c.args.outlet.now c.args.outlet.now c.from_residual.result
    (run_error_of_open error) c.from_residual.ensures.1
    (open_stops r g.W.Write.contents c.args.font.now c.args.outlet.now error
    (sym c.stray_in.ensures ∙ c.in_default.is) c.in_err-opened.ensures.exact)

pub returns-in_err-size-clause-sends : goal.returns-in_err-size-clause-sends
returns-in_err-size-clause-sends g c =
    let r = requested c.args.request.now in
    let file = c.args.font.now in
    let W : Wanted = wanted_in (asked (Some c.args.request.now.codes.now) (option_copied c.args.request.now.glyphs)) in
    let made : opened_font_cut c.in_ok-opened.opened W ≡ requested_cut r file =
    ap (λ (v : Kind × (List ℕ × Bool)). opened_font_cut v W) c.in_ok-opened.ensures.exact in
    let known : stray_number file r.numbers ≡ None = sym c.stray_in.ensures ∙ c.in_default.is in
    let error = c.in_err-size.field-0.0 in
    cut_err r g.W.Write.contents file c.args.outlet.now c.cut_of_kind_into.new.out c.from_residual-in_err-size.result
    (run_error_of_cut error) c.from_residual-in_err-size.ensures.1
    (made_stops r g.W.Write.contents file c.args.outlet.now c.cut_of_kind_into.new.out c.in_ok-opened.ensures.sound
    known error (subst (λ (z : List ℕ). StopsCut g.W.Write.contents c.args.outlet.now c.cut_of_kind_into.new.out z
    error) made c.in_err-size.ensures.stops))

pub returns-in_err-finish-clause-sends : goal.returns-in_err-finish-clause-sends
returns-in_err-finish-clause-sends g c =
    let r = requested c.args.request.now in
    let file = c.args.font.now in
    let W : Wanted = wanted_in (asked (Some c.args.request.now.codes.now) (option_copied c.args.request.now.glyphs)) in
    let made : opened_font_cut c.in_ok-opened.opened W ≡ requested_cut r file =
    ap (λ (v : Kind × (List ℕ × Bool)). opened_font_cut v W) c.in_ok-opened.ensures.exact in
    let known : stray_number file r.numbers ≡ None = sym c.stray_in.ensures ∙ c.in_default.is in
    let small = subst (λ (z : List ℕ). length z ≤ MAX_FILE) made c.in_ok-size.ensures.small in
    let sends = subst (λ (z : List ℕ). WentOut g.W.Write.contents c.args.outlet.now c.cut_of_kind_into.new.out z) made
    c.in_ok-size.ensures.sends in
    let fault = c.in_err-finish.field-0.0 in
    cut_err r g.W.Write.contents file c.args.outlet.now c.finish.new.self c.from_residual-in_err-finish.result
    (Write fault.written) c.from_residual-in_err-finish.ensures.1
    (flush_stops r g.W.Write.contents file c.args.outlet.now c.cut_of_kind_into.new.out c.finish.new.self
    (c.in_ok-opened.ensures.sound, small, known) c.requires sends c.finish.ensures.sends fault.written
    c.in_err-finish.ensures.count c.in_err-finish.ensures.broken)

pub returns-clause-sends : goal.returns-clause-sends
returns-clause-sends g c =
    let r = requested c.args.request.now in
    let file = c.args.font.now in
    let W : Wanted = wanted_in (asked (Some c.args.request.now.codes.now) (option_copied c.args.request.now.glyphs)) in
    let made : opened_font_cut c.in_ok-opened.opened W ≡ requested_cut r file =
    ap (λ (v : Kind × (List ℕ × Bool)). opened_font_cut v W) c.in_ok-opened.ensures.exact in
    let known : stray_number file r.numbers ≡ None = sym c.stray_in.ensures ∙ c.in_default.is in
    let small = subst (λ (z : List ℕ). length z ≤ MAX_FILE) made c.in_ok-size.ensures.small in
    let sends = subst (λ (z : List ℕ). WentOut g.W.Write.contents c.args.outlet.now c.cut_of_kind_into.new.out z) made
    c.in_ok-size.ensures.sends in
    record {
      has = (c.in_ok-opened.ensures.sound, small, known);
      sent = sends_end g.W.Write.contents c.args.outlet.now c.cut_of_kind_into.new.out c.finish.new.self _ sends
          c.finish.ensures.sends;
      unbroken = c.in_ok-finish.ensures.unbroken;
      flushed = c.in_ok-finish.ensures.flushed;
      holds = holds_of_font r file c.in_ok-opened.ensures.sound small;
      size = subst (λ (z : List ℕ). c.in_ok-size.size ≡ length z) made c.in_ok-size.ensures.size;
      error = tt;
    }
