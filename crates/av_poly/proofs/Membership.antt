-- The points of rows that are put together, and of rows before a map.
use Rattle.std.proofs.Common.{◌≡◌, ℕ, ◌≤◌, ◌↔◌, ℤ, List, [], ◌∷◌, ◌++◌, length, map, sym, ◌∙◌, subst}
use Rattle.std.proofs.lemmas.List.{length-map}
use Rattle.av_affine.specs.declared.form.Form.{Form}
use Rattle.av_affine.specs.declared.map.Map.{Map}
use Rattle.av_affine.specs.Maps.{image, through}
use Rattle.av_affine.proofs.Composing.{value_through}
use Rattle.av_poly.specs.Points.{Set, Has, Holds, HoldsAt}
use Rattle.av_poly.specs.Preimages.{rows_before}

pub holds_append : (rows more : List Form) (z : List ℤ) → Holds rows z → Holds more z → Holds (rows ++ more) z
holds_append [] more z h k = k
holds_append (row ∷ rows) more z h k = (h.0, holds_append rows more z h.1 k)

pub holds_first : (rows more : List Form) (z : List ℤ) → Holds (rows ++ more) z → Holds rows z
holds_first [] more z h = tt
holds_first (row ∷ rows) more z h = (h.0, holds_first rows more z h.1)

pub holds_last : (rows more : List Form) (z : List ℤ) → Holds (rows ++ more) z → Holds more z
holds_last [] more z h = h
holds_last (row ∷ rows) more z h = holds_last rows more z h.1

-- the rows of two sets together have the points of both
pub meet_points : (both a b : Set) (z : List ℤ) → both.dim ≡ a.dim → a.dim ≡ b.dim → both.rows ≡ a.rows ++ b.rows → Has both z ↔ (Has a z × Has b z)
meet_points both a b z d e r = (
  (λ h.
      let k = subst (λ (rows : List Form). Holds rows z) r h.holds in (
        record { dimension = h.dimension ∙ d; holds = holds_first a.rows b.rows z k },
        record { dimension = h.dimension ∙ d ∙ e; holds = holds_last a.rows b.rows z k },
      )),
  (λ h. record {
    dimension = h.0.dimension ∙ sym d;
    holds = subst (λ (rows : List Form). Holds rows z) (sym r) (holds_append a.rows b.rows z h.0.holds h.1.holds);
  }),
)

-- a row before a map holds where the row holds at the image
before_at : (row : Form) (forms : List Form) (z : List ℤ) → length z ≤ 4 → HoldsAt (through (length z) forms row) z ↔ HoldsAt row (image forms z)
before_at row forms z h = rw (value_through row forms z h) ((λ k. k), (λ k. k))

before_all : (rows forms : List Form) (z : List ℤ) → length z ≤ 4 → Holds (map (through (length z) forms) rows) z ↔ Holds rows (image forms z)
before_all [] forms z h = ((λ k. k), (λ k. k))
before_all (row ∷ rows) forms z h =
    let one = before_at row forms z h in
    let rest = before_all rows forms z h in
    ((λ k. (one.0 k.0, rest.0 k.1)), (λ k. (one.1 k.0, rest.1 k.1)))

-- the rows before a map have the points whose image is in the set
pub before_points : (before a : Set) (f : Map) (z : List ℤ) → before.dim ≡ f.from → before.rows ≡ rows_before f a.rows → length f.rows ≡ a.dim → length z ≤ 4
    → Has before z ↔ ((length z ≡ f.from) × Has a (image f.rows z))
before_points before a f z d r e h = (
  (λ k.
      let n = k.dimension ∙ d in
      let at = subst (λ (rows : List Form). Holds rows z) r k.holds in
      let same = subst (λ (m : ℕ). Holds (map (through m f.rows) a.rows) z) (sym n) at in
      (n, record { dimension = simp length-map e; holds = (before_all a.rows f.rows z h).0 same })),
  (λ k.
      let at = (before_all a.rows f.rows z h).1 k.1.holds in
      let same = subst (λ (m : ℕ). Holds (map (through m f.rows) a.rows) z) k.0 at in
      record { dimension = k.0 ∙ sym d; holds = subst (λ (rows : List Form). Holds rows z) (sym r) same }),
)
