use Rattle.std.proofs.Common.{◌≡◌, ◌∙◌, ℕ, List, Some, subst}
use Rattle.font_file.specs.Font.{font_fault}
use Rattle.commands.specs.Run.{HasCutIn, RefusesCutIn, SendsCut, requested, requested_cut, run_error_of_read}
use Rattle.commands.specs.declared.run_error.RunError.TheVariants.{Font}
use Rattle.commands.proofs.RunLemmas.{ends_err, file_sent, file_size, file_stops, font_stops, read_stops}
use Rattle.commands.proofs.subset.run_subset_of_request.Goals as goal

pub returns-in_err-file-clause-sent : goal.returns-in_err-file-clause-sent
returns-in_err-file-clause-sent g c =
    let r = requested c.args.request.now in
    let stops = read_stops g.R.Read.remaining g.W.Write.contents (HasCutIn r) (requested_cut r)
    (RefusesCutIn r g.R.Read.remaining c.args.inlet.now)
    c.args.inlet.now c.read_all.new.self c.args.outlet.now c.in_err-file.field-0.0 c.in_err-file.ensures.error in
    ends_err g.R.Read.remaining g.W.Write.contents (HasCutIn r) (requested_cut r)
    (RefusesCutIn r g.R.Read.remaining c.args.inlet.now) c.args.inlet.now c.read_all.new.self
    c.args.outlet.now c.args.outlet.now c.from_residual.result (run_error_of_read c.in_err-file.field-0.0)
    c.from_residual.ensures.1 c.in_err-file.ensures.spent stops

pub returns-in_err-font-clause-sent : goal.returns-in_err-font-clause-sent
returns-in_err-font-clause-sent g c =
    let r = requested c.args.request.now in
    let file = c.in_ok-file.file.items in
    let error = c.in_err-font.field-0.0 in
    let refused = subst (λ (f : List ℕ). font_fault f ≡ Some error) c.deref.ensures.value c.in_err-font.ensures in
    let stops = file_stops r g.R.Read.remaining g.W.Write.contents c.args.inlet.now c.read_all.new.self
    c.args.outlet.now c.args.outlet.now file c.in_ok-file.ensures.whole c.in_ok-file.ensures.got (Font error)
    (font_stops r g.W.Write.contents file c.args.outlet.now error refused) in
    ends_err g.R.Read.remaining g.W.Write.contents (HasCutIn r) (requested_cut r)
    (RefusesCutIn r g.R.Read.remaining c.args.inlet.now) c.args.inlet.now c.read_all.new.self
    c.args.outlet.now c.args.outlet.now c.from_residual-in_err-font.result (Font error)
    c.from_residual-in_err-font.ensures.1 c.in_ok-file.ensures.spent stops

pub returns-clause-sent : goal.returns-clause-sent
returns-clause-sent g c =
    let r = requested c.args.request.now in
    let sends = subst (λ (f : List ℕ). SendsCut g.W.Write.contents g.W.Flushes.held r f c.args.outlet.now
    c.run_subset_of_font.new.outlet c.run_subset_of_font.result) (c.in_ok-font.ensures.0 ∙ c.deref.ensures.value)
    c.run_subset_of_font.ensures.sends in
    file_sent r g.R.Read.remaining g.W.Write.contents c.args.inlet.now c.read_all.new.self
    c.args.outlet.now c.run_subset_of_font.new.outlet c.in_ok-file.file.items c.in_ok-file.ensures.spent
    c.in_ok-file.ensures.whole c.in_ok-file.ensures.got c.run_subset_of_font.result sends

pub returns-clause-size : goal.returns-clause-size
returns-clause-size g c =
    let r = requested c.args.request.now in
    let sends = subst (λ (f : List ℕ). SendsCut g.W.Write.contents g.W.Flushes.held r f c.args.outlet.now
    c.run_subset_of_font.new.outlet c.run_subset_of_font.result) (c.in_ok-font.ensures.0 ∙ c.deref.ensures.value)
    c.run_subset_of_font.ensures.sends in
    file_size r g.R.Read.remaining g.W.Write.contents c.args.inlet.now c.args.outlet.now
    c.run_subset_of_font.new.outlet c.in_ok-file.file.items c.in_ok-file.ensures.got c.run_subset_of_font.result sends
