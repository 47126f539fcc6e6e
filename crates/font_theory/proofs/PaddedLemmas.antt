-- Padding, and what it leaves of a glyph record.
use Rattle.std.proofs.Common.{◌≡◌, ℕ, ◌%◌, List, [], length, refl, ◌∙◌, ap, subst, arith}
use Rattle.std.proofs.lemmas.List.{length-append, length-replicate, append-nil}
use Rattle.font_glyph.specs.Record.{ComponentList, IsRecord}
use Rattle.font_glyph.specs.Record.ComponentList.{Empty, Simple, Composite}
use Rattle.font_glyph.specs.Reach.{IsComponentOf}
use Rattle.font_glyph.specs.declared.component.Component.{Component}
use Rattle.font_glyph.proofs.RecordLemmas.{ComponentList-append, ComponentList-only}
use Rattle.font_theory.specs.Bytes.{padded}

pub length-padded : (b : List ℕ) → length (padded b) % 4 ≡ 0
unfolding padded
length-padded b = simp (length-append, length-replicate) (omega arith)

pub padded-same : (b : List ℕ) → length b % 4 ≡ 0 → padded b ≡ b
unfolding padded
padded-same b h = rw h (append-nil b)

pub padded-padded : (b : List ℕ) → padded (padded b) ≡ padded b
padded-padded b = padded-same (padded b) (length-padded b)

pub padded-nil : padded [] ≡ []
unfolding padded
padded-nil = refl

-- zeros after a record leave its list
pub ComponentList-padded : (b : List ℕ) (list : List Component) → ComponentList b list → ComponentList (padded b) list
unfolding padded
ComponentList-padded b list (Empty e k) = Empty (ap padded e ∙ padded-nil) k
ComponentList-padded b list (Simple h k) = ComponentList-append b _ list h.0 (Simple h k)
ComponentList-padded b list (Composite h k) = ComponentList-append b _ list h.0 (Composite h k)

pub IsRecord-padded : (count : ℕ) (b : List ℕ) → IsRecord count b → IsRecord count (padded b)
unfolding IsRecord
IsRecord-padded count b (list, is, below) = (list, ComponentList-padded b list is, below)

pub IsRecord-nil : (count : ℕ) → IsRecord count []
unfolding IsRecord
IsRecord-nil count = ([], Empty refl refl, λ k d inside. absurd (omega arith))

-- they leave what it names
pub component-padded : (b : List ℕ) (g : ℕ) → IsComponentOf b g → IsComponentOf (padded b) g
component-padded b g h = record { list = h.list; is = ComponentList-padded b h.list h.is; among = h.among }

pub padded-component : (count : ℕ) (b : List ℕ) (g : ℕ) → IsRecord count b → IsComponentOf (padded b) g
    → IsComponentOf b g
unfolding IsRecord
padded-component count b g (list, is, below) h =
    let same = ComponentList-only (padded b) h.list list h.is (ComponentList-padded b list is) in
    record { list = list; is = is; among = rw same at h.among }

-- records that are equal once they are padded name the same
pub component-alike : (count : ℕ) (a b : List ℕ) (g : ℕ) → IsRecord count b → padded a ≡ padded b → IsComponentOf a g
    → IsComponentOf b g
component-alike count a b g ok same h =
    padded-component count b g ok (subst (λ (r : List ℕ). IsComponentOf r g) same (component-padded a g h))
