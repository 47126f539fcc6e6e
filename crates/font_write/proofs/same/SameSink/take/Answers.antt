use Rattle.std.proofs.Common.{◌≡◌, ℕ, ◌+◌, List, ap, subst, ◌∙◌, arith, Some, true, false, take, get_or, length}
use Rattle.std.proofs.lemmas.List.{take_rest, length-drop}
use Rattle.font_write.specs.Trace.{SentAll, SentFront}
use Rattle.font_write.specs.Comparing.{Comparing, trace_of}
use Rattle.font_write.proofs.SameLemmas.{same_all, same_stop}
use Rattle.font_write.proofs.same.SameSink.take.Goals as goal

pub returns-then-n-bytes : goal.returns-then-n-bytes
returns-then-n-bytes c =
    let f : List ℕ = c.self.inside.file.now in
    let n : ℕ = c.common-n.result in
    subst (λ (v : Comparing). SentFront (trace_of v)
    (trace_of (record {
      file = f;
      taken = take (c.self.inside.at + n) f;
      odd = Some (get_or c.args.bytes.now n 0);
      stopped = true;
    })) c.args.bytes.now) c.self.view_is
    (same_stop f c.args.bytes.now c.self.inside.at n c.self.inside.odd c.self.inside.stopped c.common-n.ensures.same
    c.if-n-bytes.true)

pub returns : goal.returns
returns c =
    let f : List ℕ = c.self.inside.file.now in
    let n : ℕ = c.common-n.result in
    let g : c.self.inside.stopped ≡ false = ap (λ (v : Comparing). v.stopped) c.self.view_is ∙ c.requires.going in
    subst (λ (v : Comparing). SentAll (trace_of v) (trace_of (record {
      file = f;
      taken = take (c.self.inside.at + n) f;
      odd = c.self.inside.odd;
      stopped = c.self.inside.stopped;
    })) c.args.bytes.now) c.self.view_is
    (same_all f c.args.bytes.now c.self.inside.at n c.self.inside.odd c.self.inside.stopped g c.self.invariant.0
    (omega (arith, c.common-n.ensures.a, ap length (take_rest f c.self.inside.at), length-drop c.self.inside.at f))
    c.common-n.ensures.same (omega (arith, c.common-n.ensures.b)))
