use Rattle.std.proofs.Common.{rules, ◌≡◌, ◌≤◌, length, ℕ, ◌+◌, ◌-◌, ◌<◌, List, ◌++◌, take, arith, ap, sym, ◌∙◌}
use Rattle.std.proofs.lemmas.List.{length-take-le}
use Rattle.std.proofs.lemmas.Slice.{take-put_mid}
use Rattle.fontcut_c.proofs.FilledLemmas.{stops}
use Rattle.fontcut_c.proofs.filled.FilledSink.take.Goals as goal
use borrow.Rule.Slice.PartMut.{same_len_mid}

pub returns-then-fit-bytes : goal.returns-then-fit-bytes
returns-then-fit-bytes c =
    let s = c.args.self.now in
    let bytes = c.args.bytes.now in
    let fit = c.min-fit.result in
    let ys = c.copy_from_slice.new.self in
    let within : s.at ≤ length s.out.now = search rules in
    let more : fit < length bytes = c.if-fit-bytes.true in
    let full : s.at + fit ≡ length s.out.now = omega (arith, c.min-fit.ensures, more, within) in
    let copied : ys ≡ take fit bytes = c.copy_from_slice.ensures.after in
    let many : length ys ≡ fit = ap (λ (b : List ℕ). length b) copied
    ∙ length-take-le fit bytes (omega (arith, more)) in
    let long = same_len_mid s.at (s.at + fit - s.at) s.out.now ys c.copy_from_slice.ensures.len in
    stops s.out.ghost_name s.at s.odd s.stopped s.out.now _ bytes fit within full long more
    (take-put_mid s.at (s.at + fit - s.at) s.out.now ys (s.at + fit) (ap (λ (n : ℕ). s.at + n) (sym many)) within
    ∙ ap (λ (b : List ℕ). take s.at s.out.now ++ b) copied)
