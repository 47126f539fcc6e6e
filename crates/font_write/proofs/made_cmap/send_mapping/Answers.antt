use Rattle.std.proofs.Common.{◌≡◌, ◌++◌, List, ℕ, length, length-append, ap, subst, ◌∙◌, arith}
use Rattle.font_theory.specs.Content.{Content}
use Rattle.font_theory.specs.File.{Writing, writing_of, groups_of_content}
use Rattle.font_write.specs.Inside.{front_before, mapping_bytes}
use Rattle.font_write.specs.Parts.{groups_bytes}
use Rattle.font_write.specs.Trace.{Sends}
use Rattle.font_write.proofs.SendingLemmas.{sends_err_at, sends_then}
use Rattle.font_write.proofs.GroupLemmas.{groups_of-few, mapping_parts}
use Rattle.font_write.proofs.made_cmap.send_mapping.Goals as goal

pub front_with-front-requires : goal.front_with-front-requires
front_with-front-requires g c = omega
    (arith, c.requires.groups, groups_of-few (g.S.Source.content_of c.args.source.now))

pub take-requires-clause-fits : goal.take-requires-clause-fits
take-requires-clause-fits g c =
    let writing : Writing = writing_of c.args.profile in
    let K : Content = g.S.Source.content_of c.args.source.now in
    let runs = groups_of_content K in
    let is : c.bytes.result.now ≡ front_before writing c.args.groups c.args.sequences.now = c.bytes.ensures.bytes
    ∙ c.front_with-front.ensures in
    let parts : c.bytes.result.now ++ groups_bytes runs ≡ mapping_bytes writing runs c.args.sequences.now =
    ap (λ (b : List ℕ). b ++ groups_bytes runs) is
    ∙ mapping_parts writing runs c.args.sequences.now c.args.groups c.requires.groups in
    omega (arith, c.requires.room.fits, ap length parts, length-append c.bytes.result.now (groups_bytes runs))

pub returns-in_err-take : goal.returns-in_err-take
returns-in_err-take g c =
    let writing : Writing = writing_of c.args.profile in
    let K : Content = g.S.Source.content_of c.args.source.now in
    let runs = groups_of_content K in
    let is : c.bytes.result.now ≡ front_before writing c.args.groups c.args.sequences.now = c.bytes.ensures.bytes
    ∙ c.front_with-front.ensures in
    let parts : c.bytes.result.now ++ groups_bytes runs ≡ mapping_bytes writing runs c.args.sequences.now =
    ap (λ (b : List ℕ). b ++ groups_bytes runs) is
    ∙ mapping_parts writing runs c.args.sequences.now c.args.groups c.requires.groups in
    sends_err_at _ _ c.bytes.result.now _ c.from_residual.result (groups_bytes runs, parts) c.from_residual.ensures.0
    c.in_err-take.ensures

pub send_groups-requires : goal.send_groups-requires
send_groups-requires g c =
    let writing : Writing = writing_of c.args.profile in
    let K : Content = g.S.Source.content_of c.args.source.now in
    let runs = groups_of_content K in
    let is : c.bytes.result.now ≡ front_before writing c.args.groups c.args.sequences.now = c.bytes.ensures.bytes
    ∙ c.front_with-front.ensures in
    let parts : c.bytes.result.now ++ groups_bytes runs ≡ mapping_bytes writing runs c.args.sequences.now =
    ap (λ (b : List ℕ). b ++ groups_bytes runs) is
    ∙ mapping_parts writing runs c.args.sequences.now c.args.groups c.requires.groups in
    record {
      going = c.in_ok-take.ensures.going;
      fits = omega (
        arith,
        c.requires.room.fits,
        ap length parts,
        length-append c.bytes.result.now (groups_bytes runs),
        c.in_ok-take.ensures.count,
      );
    }

pub returns : goal.returns
returns g c =
    let writing : Writing = writing_of c.args.profile in
    let K : Content = g.S.Source.content_of c.args.source.now in
    let runs = groups_of_content K in
    let is : c.bytes.result.now ≡ front_before writing c.args.groups c.args.sequences.now = c.bytes.ensures.bytes
    ∙ c.front_with-front.ensures in
    let parts : c.bytes.result.now ++ groups_bytes runs ≡ mapping_bytes writing runs c.args.sequences.now =
    ap (λ (b : List ℕ). b ++ groups_bytes runs) is
    ∙ mapping_parts writing runs c.args.sequences.now c.args.groups c.requires.groups in
    subst (λ (b : List ℕ). Sends (g.K.Sink.trace c.args.sink.now) (g.K.Sink.trace c.send_groups.new.sink) b
    c.send_groups.result) parts
    (sends_then _ _ _ c.bytes.result.now (groups_bytes runs) c.send_groups.result c.in_ok-take.ensures
    c.send_groups.ensures)
