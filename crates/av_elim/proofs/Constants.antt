-- Sets without indices, and whole points between bounds.
use Rattle.std.proofs.Common.{◌≡◌, ℕ, suc, ◌<◌, ◌≤◌, arith, ℤ, pos, ◌≤ℤ◌, ◌<ℤ◌, List, [], ◌∷◌, length, refl, subst}
use Rattle.std.proofs.lemmas.Int.{ints}
use Rattle.std.specs.List.{All, AllByRecursion}
use Rattle.std.proofs.lemmas.List.Elements.{All-from_recursion, recursion_from_All}
use Rattle.av_affine.specs.declared.form.Form.{Form}
use Rattle.av_affine.proofs.Order.{nonneg_by}
use Rattle.av_poly.specs.Points.{Set, Has}
use Rattle.av_poly.specs.Search.{IsBetween}
use Rattle.av_poly.specs.declared.poly.Bounds.{Bounds}
use Rattle.av_poly.specs.Rational.{homogeneous, Satisfies, entry_of, IsRationalPoint, HasRationalPoint, AreBounds}
use Rattle.av_poly.proofs.Rationals.{point_within_bounds}
use Rattle.av_elim.proofs.Reaching.{zeros}
use Rattle.av_affine.proofs.Composing.{dot_none}

satisfied : (rows : List Form) → AllByRecursion (λ row. pos 0 ≤ℤ row.constant) rows → Satisfies (homogeneous rows) (pos 1 ∷ [])
satisfied [] h = tt
satisfied (row ∷ rows) h = let e = dot_none row.coef in let k = h.0 in (omega (arith, ints, e, k), satisfied rows h.1)

constants : (rows : List Form) (m : ℤ) → pos 0 <ℤ m → Satisfies (homogeneous rows) (m ∷ []) → AllByRecursion (λ row. pos 0 ≤ℤ row.constant) rows
constants [] m p h = tt
constants (row ∷ rows) m p h = let e = dot_none row.coef in let k = h.0 in (nonneg_by m row.constant p (omega (arith, ints, e, k)), constants rows m p h.1)

pub point_of_constants : (rows : List Form) → All (λ row. pos 0 ≤ℤ row.constant) rows → HasRationalPoint 0 (homogeneous rows)
point_of_constants rows h = (pos 1, [], record { size = refl; positive = omega (arith, ints); satisfies = satisfied rows (recursion_from_All (λ row. pos 0 ≤ℤ row.constant) rows h) })

pub constants_of_point : (rows : List Form) → HasRationalPoint 0 (homogeneous rows) → All (λ row. pos 0 ≤ℤ row.constant) rows
constants_of_point rows p = go p.0 p.1 p.2
  where
    go : (m : ℤ) (y : List ℤ) → IsRationalPoint 0 (homogeneous rows) m y → All (λ row. pos 0 ≤ℤ row.constant) rows
    go m [] q = All-from_recursion (λ row. pos 0 ≤ℤ row.constant) rows (constants rows m q.positive q.satisfies)
    go m (x ∷ y) q = let e = q.size in absurd (omega (arith, e))

pub no_index : (rows : List Form) → All (λ row. pos 0 ≤ℤ row.constant) rows → AreBounds (record { dim = 0; rows = rows }) (record { low = pos 0 ∷ pos 0 ∷ pos 0 ∷ pos 0 ∷ []; high = pos 0 ∷ pos 0 ∷ pos 0 ∷ pos 0 ∷ [] })
no_index rows h = record {
  point = point_of_constants rows h;
  spans = λ i l. absurd (omega arith);
  rest = λ i l. (zeros i, zeros i);
}

between_all : (low high z : List ℤ) → length z ≤ length low → length z ≤ length high → ((i : ℕ) → i < length z → (entry_of low i ≤ℤ entry_of z i) × (entry_of z i ≤ℤ entry_of high i)) → IsBetween low high z
between_all low high [] a b h = tt
between_all [] high (x ∷ z) a b h = absurd (omega arith)
between_all (l ∷ low) [] (x ∷ z) a b h = absurd (omega arith)
between_all (l ∷ low) (g ∷ high) (x ∷ z) a b h = let k = h 0 (omega arith) in (k.0, k.1, between_all low high z (omega arith) (omega arith) (λ i l. h (suc i) (omega arith)))

-- each whole point of the set lies between its bounds
pub points_between : (set : Set) (bounds : Bounds) (z : List ℤ) → length bounds.low ≡ 4 → length bounds.high ≡ 4 → set.dim ≤ 4 → AreBounds set bounds → Has set z → IsBetween bounds.low bounds.high z
points_between set bounds z a b few s h =
    let size = h.dimension in
    between_all bounds.low bounds.high z (omega (arith, a, few, size)) (omega (arith, b, few, size))
    (λ i l.
    let w = point_within_bounds set z i h in
    let t = s.spans i (subst (λ (n : ℕ). i < n) size l) in
    (t.least (entry_of z i) w, t.greatest (entry_of z i) w))
