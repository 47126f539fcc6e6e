-- Cuts and joins of files, and the order of files.
use Rattle.std.proofs.Common.{◌≡◌, ◌≢◌, ℕ, ◌≤◌, Bool, true, false, cond, nat_eq, nat_lt, ◌&&◌, ◌||◌, ◌⊎◌, inl, inr}
use Rattle.std.proofs.Common.{List, length, refl, sym, ◌∙◌, ap, subst, arith, is_none, is_some, Option}
use Rattle.std.proofs.Common.{Some}
use Rattle.std.proofs.Common.{None}
use Rattle.std.proofs.Math.Bool.{or_self}
use Rattle.std.specs.Str.{bytes_eq}
use Rattle.std.proofs.lemmas.Bool.{and_from, and_parts, lt-ltb, ltb-true, or_cases, or_left, or_right}
use Rattle.std.proofs.lemmas.Bool.Decides.{nat_tests}
use Rattle.std.proofs.lemmas.Slice.Eq.{bytes_eq-Decides}
use Rattle.codes.specs.CharacterMap.{is_mapped, restricted, united}
use Rattle.codes.proofs.MapLemmas.{same_cond}
use Rattle.font_theory.specs.Content.{Content, IsClosedContent, Wanted, content, either_wanted, everything, is_kept}
use Rattle.font_theory.specs.Content.{read_back, wanted_within}
use Rattle.font_theory.specs.Cut.{Arises, CanJoin, Format, IsCurrent, IsCut, IsFormat, IsOld, Under, Writes, codes_of}
use Rattle.font_theory.specs.Cut.{wanted_of, cut, is_current, is_cut, is_old, joined, renewed, content_of_all}
use Rattle.font_theory.specs.Cut.{misfit_of}
use Rattle.font_theory.specs.Cut.Arises.{of_file, of_two}
use Rattle.font_theory.specs.Agreement.{Agree, both}
use Rattle.font_theory.proofs.ArisesLemmas.{IsClosed-arises}
use Rattle.font_theory.proofs.HeldLemmas.{cases_option, there-none}
use Rattle.font_theory.proofs.ContentLemmas.{IsClosed-content, content-less, content-mapped, content-read_back}
use Rattle.font_theory.proofs.JoinLemmas.{Agree-content, Agree-self, both-content, both-self, content-left}
use Rattle.font_theory.proofs.JoinLemmas.{content-right, own}

or_false : (b : Bool) → (b || false) ≡ b
or_false true = refl
or_false false = refl

mapped_either : (x y : ℕ) → nat_lt 0 (cond (nat_eq x 0) y x) ≡ (nat_lt 0 x || nat_lt 0 y)
mapped_either x y = grind (arith, nat_tests)

is_mapped-united : (m k : ℕ → ℕ) (c : ℕ) → is_mapped (united m k) c ≡ (is_mapped m c || is_mapped k c)
is_mapped-united m k c = mapped_either (m c) (k c)

is_mapped-some : (m : ℕ → ℕ) (c : ℕ) → m c ≢ 0 → is_mapped m c ≡ true
is_mapped-some m c n = lt-ltb 0 (m c) (grind (arith, n))

is_mapped-tells : (m : ℕ → ℕ) (c : ℕ) → is_mapped m c ≡ true → m c ≢ 0
is_mapped-tells m c h e = let some = ltb-true 0 (m c) h in absurd (omega (arith, some, e))

none_is : {A : Type 0} (o : Option A) → is_none o ≡ true → o ≡ None
none_is None h = refl
none_is (Some a) h = cc

both_is : {K K' L L' : Content} → K ≡ K' → L ≡ L' → both K L ≡ both K' L'
both_is p q = λ i. both (p i) (q i)

-- a file in cut form, and itself
pub CanJoin-self : (R : Format) → IsFormat R → (X : List ℕ) → IsCut R X → CanJoin R X X
CanJoin-self R law X ok = record {
  first = ok;
  second = ok;
  agree = Agree-self (content_of_all R X);
  fit = ap R.misfit (both-self (content_of_all R X)) ∙ law.own_fit X everything ok.accepted;
}

pub joined-self : (R : Format) (X : List ℕ) → joined R X X ≡ renewed R X
joined-self R X = ap R.file (both-self (content_of_all R X))

-- a current file is in cut form
pub IsCut-current : (R : Format) (X : List ℕ) → IsCurrent R X → IsCut R X
IsCut-current R X ok = record { accepted = ok.accepted; written = inl ok.written }

-- so is an old one
pub IsCut-old : (R : Format) (X : List ℕ) → IsOld R X → IsCut R X
IsCut-old R X ok = record { accepted = ok.accepted; written = inr ok.written }

-- and there is no third form
pub IsCut-cases : (R : Format) (X : List ℕ) → IsCut R X → IsCurrent R X ⊎ IsOld R X
IsCut-cases R X ok = elim ok.written [
  | inl e ↦ inl (record { accepted = ok.accepted; written = e })
  | inr e ↦ inr (record { accepted = ok.accepted; written = e })
]

-- whether an accepted file is an old cut is decided
pub is_old-tells : (R : Format) (X : List ℕ) → R.fault X ≡ None → is_old R X ≡ true → IsOld R X
unfolding is_old
is_old-tells R X h t = record { accepted = h; written = (bytes_eq-Decides (R.old (content_of_all R X)) X).0 t }

pub is_old-of : (R : Format) (X : List ℕ) → IsOld R X → is_old R X ≡ true
unfolding is_old
is_old-of R X ok = (bytes_eq-Decides (R.old (content_of_all R X)) X).1 ok.written

-- whether an accepted file is current is decided
pub is_current-tells : (R : Format) (X : List ℕ) → R.fault X ≡ None → is_current R X ≡ true → IsCurrent R X
unfolding is_current
is_current-tells R X h t = record { accepted = h; written = (bytes_eq-Decides (R.file (content_of_all R X)) X).0 t }

pub is_current-of : (R : Format) (X : List ℕ) → IsCurrent R X → is_current R X ≡ true
unfolding is_current
is_current-of R X ok = (bytes_eq-Decides (R.file (content_of_all R X)) X).1 ok.written

module _ (R : Format) (law : IsFormat R) where
  pub codes_of-accepted : (X : List ℕ) → R.fault X ≡ None → codes_of R X ≡ is_mapped (R.font X).map
  codes_of-accepted X h = ap (λ o c. is_none o && is_mapped (R.font X).map c) h

  pub wanted_of-accepted : (X : List ℕ) → R.fault X ≡ None
      → wanted_of R X ≡ record { codes = is_mapped (R.font X).map; glyphs = (R.font X).there }
  wanted_of-accepted X h = ap (λ o. record {
    codes = λ c. is_none o && is_mapped (R.font X).map c;
    glyphs = λ g. is_none o && (R.font X).there g;
  }) h

  -- a file that is written of a content that arises is in cut form, and has that content
  pub content_of_all-written : (K : Content) (X : List ℕ) → Arises R K → Writes R K X → length X ≤ R.limit
      → content_of_all R X ≡ K
  content_of_all-written K X ok w small = ap (λ F. content F everything) (law.reads_back K X ok w small).1
      ∙ (IsClosed-arises R law.is_font K ok).closed

  pub IsCut-written : (K : Content) (X : List ℕ) → Arises R K → Writes R K X → length X ≤ R.limit → IsCut R X
  IsCut-written K X ok w small = record {
    accepted = (law.reads_back K X ok w small).0;
    written = subst (λ C. Writes R C X) (sym (content_of_all-written K X ok w small)) w;
  }

  pub IsCurrent-written : (K : Content) (X : List ℕ) → Arises R K → R.file K ≡ X → length X ≤ R.limit → IsCurrent R X
  IsCurrent-written K X ok w small = record {
    accepted = (law.reads_back K X ok (inl w) small).0;
    written = ap R.file (content_of_all-written K X ok (inl w) small) ∙ w;
  }

  pub IsOld-written : (K : Content) (X : List ℕ) → Arises R K → R.old K ≡ X → length X ≤ R.limit → IsOld R X
  IsOld-written K X ok w small = record {
    accepted = (law.reads_back K X ok (inr w) small).0;
    written = ap R.old (content_of_all-written K X ok (inr w) small) ∙ w;
  }

  pub font-whole : (X : List ℕ) → IsCut R X → R.font X ≡ read_back (content_of_all R X)
  font-whole X ok =
      (law.reads_back (content_of_all R X) X (of_file X everything ok.accepted refl) ok.written
      (law.accepted_size X ok.accepted)).1

  -- what a file in cut form has is what its content has
  pub wanted_of-whole : (X : List ℕ) → IsCut R X → wanted_of R X ≡ own (content_of_all R X)
  wanted_of-whole X ok = wanted_of-accepted X ok.accepted
      ∙ ap (λ F. record { codes = is_mapped F.map; glyphs = F.there }) (font-whole X ok)

  pub IsClosed-whole : (X : List ℕ) → R.fault X ≡ None → IsClosedContent (content_of_all R X)
  IsClosed-whole X h = IsClosed-content (R.font X) everything (law.is_font X h)

  -- whether an accepted file is in cut form is decided
  pub is_cut-tells : (X : List ℕ) → R.fault X ≡ None → is_cut R X ≡ true → IsCut R X
  unfolding is_cut
  is_cut-tells X h t = record {
    accepted = h;
    written = elim (or_cases (bytes_eq (R.file (content_of_all R X)) X) _ t) [
      | inl a ↦ inl ((bytes_eq-Decides (R.file (content_of_all R X)) X).0 a)
      | inr b ↦ inr ((bytes_eq-Decides (R.old (content_of_all R X)) X).0 b)
    ];
  }

  pub is_cut-of : (X : List ℕ) → IsCut R X → is_cut R X ≡ true
  unfolding is_cut
  is_cut-of X ok = elim ok.written [
    | inl e ↦ or_left (bytes_eq (R.file (content_of_all R X)) X) _ ((bytes_eq-Decides (R.file (content_of_all R X)) X).1
        e)
    | inr e ↦ or_right (bytes_eq (R.file (content_of_all R X)) X) _ ((bytes_eq-Decides (R.old (content_of_all R X)) X).1
        e)
  ]

  -- what holds of a file X that is a cut of an accepted font for A
  module _ (F : List ℕ) (h : R.fault F ≡ None) (A : Wanted) (X : List ℕ) (w : Writes R (content (R.font F) A) X)
      (small : length X ≤ R.limit) where
    arises : Arises R (content (R.font F) A)
    arises = of_file F A h refl

    pub content_of_all-cut : content_of_all R X ≡ content (R.font F) A
    content_of_all-cut = content_of_all-written _ X arises w small

    pub font-cut : R.font X ≡ read_back (content (R.font F) A)
    font-cut = (law.reads_back _ X arises w small).1

    pub IsCut-cut : IsCut R X
    IsCut-cut = IsCut-written _ X arises w small

    pub content-cut : (B : Wanted) → content (R.font X) B ≡ content (R.font F) (wanted_within (R.font F) A B)
    content-cut B = ap (λ G. content G B) font-cut ∙ content-read_back (R.font F) A B (law.is_font F h)

    pub cut-cut : (B : Wanted) → cut R X B ≡ cut R F (wanted_within (R.font F) A B)
    cut-cut B = ap R.file (content-cut B)

    pub cut-less : (B : Wanted) → ((c : ℕ) → B.codes c ≡ true → A.codes c ≡ true)
        → ((g : ℕ) → B.glyphs g ≡ true → A.glyphs g ≡ true) → cut R X B ≡ cut R F B
    cut-less B codes glyphs =
        ap R.file (ap (λ G. content G B) font-cut ∙ content-less (R.font F) A B (law.is_font F h) codes glyphs)

  -- and as it is written it is current
  pub IsCurrent-cut : (F : List ℕ) → R.fault F ≡ None → (A : Wanted) (X : List ℕ) → X ≡ cut R F A → length X ≤ R.limit
      → IsCurrent R X
  IsCurrent-cut F h A X is small = IsCurrent-written (content (R.font F) A) X (of_file F A h refl) (sym is) small

  -- as it was written before it is an old one, of the same content
  pub IsOld-cut : (F : List ℕ) → R.fault F ≡ None → (A : Wanted) (X : List ℕ) → X ≡ R.old (content (R.font F) A)
      → length X ≤ R.limit
      → IsOld R X
  IsOld-cut F h A X is small = IsOld-written (content (R.font F) A) X (of_file F A h refl) (sym is) small

  pub content_of_all-old_cut : (F : List ℕ) → R.fault F ≡ None → (A : Wanted)
      → length (R.old (content (R.font F) A)) ≤ R.limit
      → content_of_all R (R.old (content (R.font F) A)) ≡ content (R.font F) A
  content_of_all-old_cut F h A small = content_of_all-cut F h A (R.old (content (R.font F) A)) (inr refl) small

  -- joining two cuts of a font, in any forms
  module _ (F : List ℕ) (h : R.fault F ≡ None) (A B : Wanted) (X Y : List ℕ)
      (wX : Writes R (content (R.font F) A) X) (wY : Writes R (content (R.font F) B) Y) (sX : length X ≤ R.limit)
      (sY : length Y ≤ R.limit) where
    both-cuts : both (content_of_all R X) (content_of_all R Y) ≡ content (R.font F) (either_wanted A B)
    both-cuts = both_is (content_of_all-cut F h A X wX sX) (content_of_all-cut F h B Y wY sY)
        ∙ both-content (R.font F) A B (law.is_font F h)

    pub CanJoin-cuts : CanJoin R X Y
    CanJoin-cuts = record {
      first = IsCut-cut F h A X wX sX;
      second = IsCut-cut F h B Y wY sY;
      agree = rw (content_of_all-cut F h A X wX sX, content_of_all-cut F h B Y wY sY)
          (Agree-content (R.font F) A B (law.is_font F h));
      fit = ap R.misfit both-cuts ∙ law.own_fit F (either_wanted A B) h;
    }

    pub joined-cuts : joined R X Y ≡ cut R F (either_wanted A B)
    joined-cuts = ap R.file both-cuts

  -- a join is above both files
  module _ (X Y : List ℕ) (can : CanJoin R X Y) (small : length (joined R X Y) ≤ R.limit) where
    okX : IsClosedContent (content_of_all R X)
    okX = IsClosed-whole X can.first.accepted

    okY : IsClosedContent (content_of_all R Y)
    okY = IsClosed-whole Y can.second.accepted

    arU : Arises R (both (content_of_all R X) (content_of_all R Y))
    arU = of_two _ _ (of_file X everything can.first.accepted refl) (of_file Y everything can.second.accepted refl)
        can.agree can.fit refl

    back : (R.fault (joined R X Y) ≡ None)
        × (R.font (joined R X Y) ≡ read_back (both (content_of_all R X) (content_of_all R Y)))
    back = law.reads_back _ _ arU (inl refl) small

    pub IsCurrent-joined : IsCurrent R (joined R X Y)
    IsCurrent-joined = IsCurrent-written _ _ arU refl small

    pub IsCut-joined : IsCut R (joined R X Y)
    IsCut-joined = IsCut-current R _ IsCurrent-joined

    pub content_of_all-joined : content_of_all R (joined R X Y) ≡ both (content_of_all R X) (content_of_all R Y)
    content_of_all-joined = content_of_all-written _ _ arU (inl refl) small

    pub Under-joined_left : Under R X (joined R X Y)
    Under-joined_left = record {
      accepted = back.0;
      written = subst (λ K. Writes R K X)
          (sym ((λ i. content (back.1 i) (wanted_of-whole X can.first i))
          ∙ content-left _ _ okX okY can.agree))
          can.first.written;
    }

    pub Under-joined_right : Under R Y (joined R X Y)
    Under-joined_right = record {
      accepted = back.0;
      written = subst (λ K. Writes R K Y)
          (sym ((λ i. content (back.1 i) (wanted_of-whole Y can.second i))
          ∙ content-right _ _ okX okY can.agree))
          can.second.written;
    }

  -- a file under an accepted one, of a size that may be, is in cut form
  module _ (X F : List ℕ) (u : Under R X F) (small : length X ≤ R.limit) where
    pub IsCut-under : IsCut R X
    IsCut-under = IsCut-cut F u.accepted (wanted_of R X) X u.written small

    pub content_of_all-under : content_of_all R X ≡ content (R.font F) (wanted_of R X)
    content_of_all-under = content_of_all-cut F u.accepted (wanted_of R X) X u.written small

  pub Agree-under : (X Y F : List ℕ) → Under R X F → Under R Y F → length X ≤ R.limit → length Y ≤ R.limit
      → Agree (content_of_all R X) (content_of_all R Y)
  Agree-under X Y F u v sx sy =
      rw (content_of_all-under X F u sx, content_of_all-under Y F v sy)
      (Agree-content (R.font F) _ _ (law.is_font F u.accepted))

  -- and all that they have fits
  pub both-under : (X Y F : List ℕ) → Under R X F → Under R Y F → length X ≤ R.limit → length Y ≤ R.limit
      → both (content_of_all R X) (content_of_all R Y)
      ≡ content (R.font F) (either_wanted (wanted_of R X) (wanted_of R Y))
  both-under X Y F u v sx sy = both_is (content_of_all-under X F u sx) (content_of_all-under Y F v sy)
      ∙ both-content (R.font F) _ _ (law.is_font F u.accepted)

  pub misfit-under : (X Y F : List ℕ) → Under R X F → Under R Y F → length X ≤ R.limit → length Y ≤ R.limit
      → misfit_of R X Y ≡ None
  misfit-under X Y F u v sx sy = ap R.misfit (both-under X Y F u v sx sy) ∙ law.own_fit F _ u.accepted

  pub CanJoin-under : (X Y F : List ℕ) → Under R X F → Under R Y F → length X ≤ R.limit → length Y ≤ R.limit
      → CanJoin R X Y
  CanJoin-under X Y F u v sx sy = record {
    first = IsCut-under X F u sx;
    second = IsCut-under Y F v sy;
    agree = Agree-under X Y F u v sx sy;
    fit = misfit-under X Y F u v sx sy;
  }

  -- and below each file that is above both
  pub Under-least : (X Y F : List ℕ) → CanJoin R X Y → length (joined R X Y) ≤ R.limit → Under R X F → Under R Y F
      → Under R (joined R X Y) F
  Under-least X Y F can small u v =
      record { accepted = u.accepted; written = subst (λ K. Writes R K (joined R X Y)) same (inl refl) }
    where
      sx : length X ≤ R.limit
      sx = law.accepted_size X can.first.accepted

      sy : length Y ≤ R.limit
      sy = law.accepted_size Y can.second.accepted

      K : Content
      K = content_of_all R X

      L : Content
      L = content_of_all R Y

      union : both K L ≡ content (R.font F) (either_wanted (wanted_of R X) (wanted_of R Y))
      union = both-under X Y F u v sx sy

      there_joined : (g : ℕ) → (both K L).there g ≡ (K.there g || L.there g)
      there_joined g = go (cases_option (K.outline g)) (cases_option (L.outline g))
        where
          go : ((K.outline g ≡ None) ⊎ ((a : List ℕ) × (K.outline g ≡ Some a)))
              → ((L.outline g ≡ None) ⊎ ((b : List ℕ) × (L.outline g ≡ Some b)))
              → (both K L).there g ≡ (K.there g || L.there g)
          go (inl k) l = ap (λ o. cond (is_some o) (K.there g) (L.there g)) k
              ∙ sym (ap (λ b. b || L.there g) (there-none K (IsClosed-whole X can.first.accepted) g k))
          go (inr k) (inl l) = ap (λ o. cond (is_some o) (K.there g) (L.there g)) k.1
              ∙ sym (ap (λ b. K.there g || b) (there-none L (IsClosed-whole Y can.second.accepted) g l)
              ∙ or_false (K.there g))
          go (inr k) (inr l) = ap (λ o. cond (is_some o) (K.there g) (L.there g)) k.1
              ∙ sym (or_self (K.there g))
              ∙ ap (λ b. K.there g || b) (can.agree.there g k.0 l.0 k.1 l.1)

      own_joined : own (both K L) ≡ either_wanted (own K) (own L)
      own_joined = λ i. record {
        codes = λ c. is_mapped-united K.map L.map c i;
        glyphs = λ g. there_joined g i;
      }

      wanted_joined : wanted_of R (joined R X Y) ≡ either_wanted (wanted_of R X) (wanted_of R Y)
      wanted_joined =
          wanted_of-whole (joined R X Y) (IsCut-joined X Y can small)
          ∙ ap own (content_of_all-joined X Y can small)
          ∙ own_joined
          ∙ (λ i. either_wanted (sym (wanted_of-whole X can.first) i) (sym (wanted_of-whole Y can.second) i))

      same : both K L ≡ content (R.font F) (wanted_of R (joined R X Y))
      same = union ∙ ap (content (R.font F)) (sym wanted_joined)

  codes_of-tells : (X : List ℕ) (c : ℕ) → codes_of R X c ≡ true → (R.fault X ≡ None) × ((R.font X).map c ≢ 0)
  codes_of-tells X c h = let w = and_parts _ _ h in (none_is (R.fault X) w.0, is_mapped-tells (R.font X).map c w.1)

  codes_of-some : (X : List ℕ) (c : ℕ) → R.fault X ≡ None → (R.font X).map c ≢ 0 → codes_of R X c ≡ true
  codes_of-some X c h n = and_from _ _ (ap is_none h) (is_mapped-some (R.font X).map c n)

  pub codes_of-under : (X F : List ℕ) → Under R X F → (c : ℕ) → codes_of R X c ≡ true → codes_of R F c ≡ true
  codes_of-under X F u c h =
      let w = codes_of-tells X c h in
      let sx = law.accepted_size X w.0 in
      let m : (R.font X).map c ≡ restricted (codes_of R X) (R.font F).map c =
      ap (λ K. K.map c) (content_of_all-under X F u sx) in
      codes_of-some F c u.accepted (λ e. w.1 (m ∙ ap (λ g. cond (codes_of R X c) g 0) e ∙ same_cond (codes_of R X c) 0))

  -- what is there in a file under another is there in that
  pub there-under : (X F : List ℕ) → Under R X F → (g : ℕ) → (wanted_of R X).glyphs g ≡ true
      → (wanted_of R F).glyphs g ≡ true
  there-under X F u g h =
      let w = and_parts _ _ h in
      let ok : R.fault X ≡ None = none_is (R.fault X) w.0 in
      let sx = law.accepted_size X ok in
      let form = IsCut-under X F u sx in
      let t : (is_kept (R.font F) (wanted_of R X) g && (R.font F).there g) ≡ true =
      sym (ap (λ K. K.there g) (content_of_all-under X F u sx)) ∙ sym (ap (λ G. G.there g) (font-whole X form)) ∙ w.1 in
      and_from _ _ (ap is_none u.accepted) (and_parts _ _ t).1

  there-some : (X : List ℕ) (g : ℕ) → R.fault X ≡ None → (R.font X).there g ≡ true → (wanted_of R X).glyphs g ≡ true
  there-some X g h t = and_from _ _ (ap is_none h) t

  -- the order is reflexive on files in cut form, and transitive
  pub content-own : (X : List ℕ) → R.fault X ≡ None → content (R.font X) (wanted_of R X) ≡ content_of_all R X
  content-own X h = content-mapped (R.font X) (wanted_of R X) everything (law.is_font X h)
      (λ c n. codes_of-some X c h n) (λ g t. there-some X g h t)

  pub Under-self : (X : List ℕ) → IsCut R X → Under R X X
  Under-self X ok = record {
    accepted = ok.accepted;
    written = subst (λ K. Writes R K X) (sym (content-own X ok.accepted)) ok.written;
  }

  pub Under-through : (X Y Z : List ℕ) → Under R X Y → Under R Y Z → Under R X Z
  Under-through X Y Z u v = record {
    accepted = v.accepted;
    written = subst (λ K. Writes R K X)
        (ap (λ G. content G (wanted_of R X)) (font-cut Z v.accepted (wanted_of R Y) Y v.written (law.accepted_size Y
        u.accepted))
        ∙ content-less (R.font Z) (wanted_of R Y) (wanted_of R X) (law.is_font Z v.accepted) (codes_of-under X Y u)
        (there-under X Y u))
        u.written;
  }

  -- files under each other have one content
  pub content_of_all-mutual : (X Z : List ℕ) → Under R X Z → Under R Z X → content_of_all R X ≡ content_of_all R Z
  content_of_all-mutual X Z u v =
      let same : wanted_of R X ≡ wanted_of R Z = λ i. record {
        codes = λ c. go (codes_of R X c) (codes_of R Z c) (codes_of-under X Z u c) (codes_of-under Z X v c) i;
        glyphs = λ g. go ((wanted_of R X).glyphs g) ((wanted_of R Z).glyphs g) (there-under X Z u g)
            (there-under Z X v g) i;
      } in
      content_of_all-under X Z u (law.accepted_size X v.accepted)
      ∙ ap (content (R.font Z)) same
      ∙ content-own Z u.accepted
    where
      go : (a b : Bool) → (a ≡ true → b ≡ true) → (b ≡ true → a ≡ true) → a ≡ b
      go true true h k = refl
      go true false h k = sym (h refl)
      go false true h k = k refl
      go false false h k = refl

  -- so two that are current are the same file
  pub same-mutual : (X Z : List ℕ) → IsCurrent R X → IsCurrent R Z → Under R X Z → Under R Z X → X ≡ Z
  same-mutual X Z old new u v = sym old.written ∙ ap R.file (content_of_all-mutual X Z u v) ∙ new.written
