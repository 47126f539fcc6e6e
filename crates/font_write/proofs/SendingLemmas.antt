-- One send after another.
use Rattle.std.proofs.Common.{◌≡◌, ℕ, false, List, [], ◌++◌, Option, Some, None, Result, Ok, Err, sym, ap, subst, ◌∙◌}
use Rattle.std.proofs.Common.{refl, arith, length-append, append_assoc}
use Rattle.std.specs.Io.KnownBytes.{Appends}
use Rattle.std.specs.Result.{IsErr}
use Rattle.std.proofs.lemmas.Result.{MatchResult-from_err}
use Rattle.std.proofs.KnownBytes.{Appends-nil, Appends-trans}
use Rattle.font_write.specs.Trace.{Trace, IsFront, SentAll, SentFront, Sends}

front_more : (o n : Option (List ℕ)) (a b : List ℕ) → IsFront o n a → IsFront o n (a ++ b)
front_more None n a b h = tt
front_more (Some x) n a b h = (
  h.0,
  h.1,
  record {
    rest = h.2.rest ++ b;
    whole = sym (append_assoc h.0 h.2.rest b)
        ∙ (ap (λ (t : List ℕ). t ++ b) h.2.whole ∙ append_assoc x a b);
  },
)

front_then : (o m n : Option (List ℕ)) (a b : List ℕ) → Appends o m a → IsFront m n b → IsFront o n (a ++ b)
front_then None m n a b e h = tt
front_then (Some x) None n a b e h = absurd e
front_then (Some x) (Some y) n a b e h =
    let k : IsFront (Some (x ++ a)) n b = subst (λ (t : List ℕ). IsFront (Some t) n b) e h in
    (k.0, k.1, record { rest = k.2.rest; whole = k.2.whole ∙ append_assoc x a b })

pub sent_then : (t u v : Trace) (a b : List ℕ) → SentAll t u a → SentAll u v b → SentAll t v (a ++ b)
sent_then t u v a b h k =
    record {
      fixed = k.fixed ∙ h.fixed;
      count = omega (arith, h.count, k.count, length-append a b);
      taken = Appends-trans t.taken u.taken v.taken a b h.taken k.taken;
      going = k.going;
    }

pub stopped_then : (t u v : Trace) (a b : List ℕ) → SentAll t u a → SentFront u v b → SentFront t v (a ++ b)
stopped_then t u v a b h k =
    record {
      front = a ++ k.front;
      is_front = record {
        rest = k.is_front.rest;
        whole = append_assoc a k.front k.is_front.rest
            ∙ ap (λ (x : List ℕ). a ++ x) k.is_front.whole;
      };
      fixed = k.fixed ∙ h.fixed;
      count = omega (arith, h.count, k.count, length-append a k.front);
      taken = Appends-trans t.taken u.taken v.taken a k.front h.taken k.taken;
      shown = front_then t.taken u.taken v.shown a b h.taken k.shown;
      stopped = k.stopped;
    }

-- a stop within a part is a stop within the whole
pub stopped_within : (t u : Trace) (a b : List ℕ) → SentFront t u a → SentFront t u (a ++ b)
stopped_within t u a b h =
    record {
      front = h.front;
      is_front = record {
        rest = h.is_front.rest ++ b;
        whole = sym (append_assoc h.front h.is_front.rest b)
            ∙ ap (λ (x : List ℕ). x ++ b) h.is_front.whole;
      };
      fixed = h.fixed;
      count = h.count;
      taken = h.taken;
      shown = front_more t.taken u.shown a b h.shown;
      stopped = h.stopped;
    }

pub sent_none : (t : Trace) → t.stopped ≡ false → SentAll t t []
sent_none t g = record { fixed = refl; count = omega arith; taken = Appends-nil t.taken; going = g }

-- the last call's result is handed on
pub sends_then : {A E : Type 0} → (t u v : Trace) (a b : List ℕ) (r : Result A E) → SentAll t u a → Sends u v b r
    → Sends t v (a ++ b) r
sends_then t u v a b (Ok x) h k = sent_then t u v a b h k
sends_then t u v a b (Err x) h k = stopped_then t u v a b h k

-- the exit of a `?`
pub sends_err : {A E : Type 0} → (t u : Trace) (a b : List ℕ) (r : Result A E) → IsErr r → SentFront t u a
    → Sends t u (a ++ b) r
sends_err t u a b r e h = MatchResult-from_err r (λ _. SentAll t u (a ++ b)) (λ _. SentFront t u (a ++ b)) e
    (λ _. stopped_within t u a b h)

pub sends_err_at : {A E : Type 0} → (t u : Trace) (a w : List ℕ) (r : Result A E) → (rest : List ℕ) × (a ++ rest ≡ w)
    → IsErr r → SentFront t u a → Sends t u w r
sends_err_at t u a w r p e h = subst (λ (x : List ℕ). Sends t u x r) p.1 (sends_err t u a p.0 r e h)

-- the exit of a `?` after what was sent: w is what was sent, the piece that stopped, and a rest
pub stops_within : {A E : Type 0} → (t u v : Trace) (a b w : List ℕ) (r : Result A E) → (rest : List ℕ)
    × (a ++ (b ++ rest) ≡ w) → IsErr r → SentAll t u a → SentFront u v b → Sends t v w r
stops_within t u v a b w r p e h k = sends_err_at t v (a ++ b) w r (
  p.0,
  append_assoc a b p.0
      ∙ p.1,
) e (stopped_then t u v a b h k)

-- one more piece
pub goes_on : (t u v : Trace) (a b w : List ℕ) → w ≡ a ++ b → SentAll t u a → SentAll u v b → SentAll t v w
goes_on t u v a b w e h k = subst (λ (x : List ℕ). SentAll t v x) (sym e) (sent_then t u v a b h k)

-- nothing to send
pub sends_none : (t : Trace) (b : List ℕ) → b ≡ [] → t.stopped ≡ false → SentAll t t b
sends_none t b e g = subst (λ (x : List ℕ). SentAll t t x) (sym e) (sent_none t g)
