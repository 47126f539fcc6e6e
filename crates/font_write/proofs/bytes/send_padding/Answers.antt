use Rattle.std.proofs.Common.{◌≡◌, ℕ, List, [], ◌∷◌, replicate, ap, subst, ◌∙◌, take, arith}
use Rattle.std.proofs.lemmas.List.{take-replicate}
use Rattle.sfnt_bytes.specs.Findings.{padding_of}
use Rattle.font_write.specs.Trace.{Sends}
use Rattle.font_write.proofs.bytes.send_padding.Goals as goal

pub returns : goal.returns
returns g c =
    let n : ℕ = padding_of c.args.length in
    let few : take {A = ℕ} n (0 ∷ 0 ∷ 0 ∷ 0 ∷ []) ≡ replicate n 0 = take-replicate n 4 0 (omega arith) in
    let e : take {A = ℕ} c.padding.result (0 ∷ 0 ∷ 0 ∷ 0 ∷ []) ≡ replicate n 0 =
    ap (λ (x : ℕ). take {A = ℕ} x (0 ∷ 0 ∷ 0 ∷ 0 ∷ [])) c.padding.ensures ∙ few in
    subst (λ (x : List ℕ). Sends (g.K.Sink.trace c.args.sink.now) (g.K.Sink.trace c.take.new.self) x c.take.result) e
    c.take.ensures
