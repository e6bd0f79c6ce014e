-- On a cell a row is affine in the first entry.
use Rattle.std.proofs.Common.{◌≡◌, ℕ, List, [], ◌∷◌, length, map, refl, sym, subst, arith, ◌∙◌, ap, ℤ, pos, negsuc, ◌+ℤ◌, ◌-ℤ◌, ◌*ℤ◌, ◌≤ℤ◌, neg_ℤ}
use Rattle.std.proofs.lemmas.Int.{ints}
use Rattle.av_affine.specs.declared.form.Form.{Form}
use Rattle.av_affine.specs.Numbers.{dot}
use Rattle.av_affine.specs.Forms.{value_at}
use Rattle.av_affine.proofs.Ring.{ring, cube}
use Rattle.av_affine.proofs.Order.{product_nonneg}
use Rattle.std.specs.Prelude.{IsTrue}
use Rattle.av_poly.specs.Points.{Set, Holds}
use Rattle.av_flat.specs.Points.{has}
use Rattle.av_flat.proofs.Sets.{has_is}
use Rattle.av_tree.specs.Points.{Point}
use Rattle.av_space.specs.Coordinates.{along}

-- the rows have an inverse on points of n entries
abbrev pub Keeps : List (List ℤ) → List (List ℤ) → ℕ → Type 0
Keeps rows inverse n = (z : Point) → length z ≡ n → along inverse (along rows z) ≡ z

-- such rows send no two points to one
pub one_image : (rows inverse : List (List ℤ)) (n : ℕ) → Keeps rows inverse n
    → (z y : Point) → length z ≡ n → length y ≡ n → along rows z ≡ along rows y → z ≡ y
one_image rows inverse n keeps z y lz ly e = sym (keeps z lz) ∙ ap (along inverse) e ∙ keeps y ly

-- ---- along a cell

abbrev head : List ℤ → ℤ
head [] = pos 0
head (x ∷ xs) = x

abbrev tail : List ℤ → List ℤ
tail [] = []
tail (x ∷ xs) = xs

abbrev slope : List ℤ → List (List ℤ) → ℤ
slope a rows = dot a (map head rows)

abbrev base : List ℤ → List (List ℤ) → List ℤ → ℤ
base a rows at = dot a (map (λ row. dot (tail row) at) rows)

first_apart : (row : List ℤ) (t : ℤ) (at : List ℤ) → dot row (t ∷ at) ≡ head row *ℤ t +ℤ dot (tail row) at
first_apart [] t at = omega (arith, ints)
first_apart (x ∷ row) t at = refl

affine : (a : List ℤ) (rows : List (List ℤ)) (t : ℤ) (at : List ℤ) → dot a (along rows (t ∷ at)) ≡ slope a rows *ℤ t +ℤ base a rows at
affine [] rows t at = omega (arith, ints)
affine (x ∷ a) [] t at = omega (arith, ints)
affine (x ∷ a) (row ∷ rows) t at = rw (first_apart row t at, affine a rows t at) (simp ring (omega (arith, ints, cube)))

turned : (s v u : ℤ) → neg_ℤ s *ℤ (v -ℤ u) ≡ s *ℤ u -ℤ s *ℤ v
turned s v u = simp ring (omega (arith, ints))

pub straight : (s v u : ℤ) → s *ℤ (u -ℤ v) ≡ s *ℤ u -ℤ s *ℤ v
straight s v u = simp ring (omega (arith, ints))

-- a number between, under a slope
between : (s b t u v : ℤ) → t ≤ℤ u → u ≤ℤ v → pos 0 ≤ℤ (s *ℤ t +ℤ b) → pos 0 ≤ℤ (s *ℤ v +ℤ b) → pos 0 ≤ℤ (s *ℤ u +ℤ b)
between (pos s) b t u v low high h k =
    let p = product_nonneg (pos s) (u -ℤ t) (omega (arith, ints)) (omega (arith, ints)) in
    let e = straight (pos s) t u in
    omega (arith, ints, p, e, h)
between (negsuc s) b t u v low high h k =
    let p = product_nonneg (neg_ℤ (negsuc s)) (v -ℤ u) (omega (arith, ints)) (omega (arith, ints)) in
    let e = turned (negsuc s) v u in
    omega (arith, ints, p, e, k)

-- the value of a row at a point of the cell
value_along : (row : Form) (inverse rows : List (List ℤ)) (n : ℕ) → Keeps rows inverse n → (z : Point) (t : ℤ) (at : List ℤ) → length z ≡ n → along rows z ≡ t ∷ at
    → value_at row z ≡ slope row.coef inverse *ℤ t +ℤ (base row.coef inverse at +ℤ row.constant)
value_along row inverse rows n keeps z t at l e =
    let is : z ≡ along inverse (t ∷ at) = sym (keeps z l) ∙ ap (along inverse) e in
    let f = affine row.coef inverse t at in
    ap (value_at row) is ∙ (omega (arith, ints, f))

rows_between : (rows inverse : List (List ℤ)) (n : ℕ) → Keeps rows inverse n → (x y z : Point) (t u v : ℤ) (at : List ℤ) → length x ≡ n → length y ≡ n → length z ≡ n
    → along rows x ≡ t ∷ at → along rows y ≡ u ∷ at → along rows z ≡ v ∷ at → t ≤ℤ u → u ≤ℤ v
    → (forms : List Form) → Holds forms x → Holds forms z → Holds forms y
rows_between rows inverse n keeps x y z t u v at lx ly lz ex ey ez low high [] hx hz = tt
rows_between rows inverse n keeps x y z t u v at lx ly lz ex ey ez low high (row ∷ forms) hx hz =
    let s = slope row.coef inverse in
    let b = base row.coef inverse at +ℤ row.constant in
    let px : pos 0 ≤ℤ (s *ℤ t +ℤ b) = subst (λ k. pos 0 ≤ℤ k) (value_along row inverse rows n keeps x t at lx ex) hx.0 in
    let pz : pos 0 ≤ℤ (s *ℤ v +ℤ b) = subst (λ k. pos 0 ≤ℤ k) (value_along row inverse rows n keeps z v at lz ez) hz.0 in (
      subst (λ k. pos 0 ≤ℤ k) (sym (value_along row inverse rows n keeps y u at ly ey)) (between s b t u v low high px pz),
      rows_between rows inverse n keeps x y z t u v at lx ly lz ex ey ez low high forms hx.1 hz.1,
    )

-- of three points that differ, under such rows, in the first entry alone, the one between is in each set that has the two others
pub between_images : (rows inverse : List (List ℤ)) (n : ℕ) → Keeps rows inverse n
    → (set : Set) (x y z : Point) (t u v : ℤ) (at : List ℤ) → length x ≡ n → length y ≡ n → length z ≡ n
    → along rows x ≡ t ∷ at → along rows y ≡ u ∷ at → along rows z ≡ v ∷ at
    → t ≤ℤ u → u ≤ℤ v → IsTrue (has set x) → IsTrue (has set z) → IsTrue (has set y)
between_images rows inverse n keeps set x y z t u v at lx ly lz ex ey ez low high hx hz =
    let px = (has_is set x).0 hx in
    let pz = (has_is set z).0 hz in
    (has_is set y).1 (record { dimension = ly ∙ sym lx ∙ px.dimension; holds = rows_between rows inverse n keeps x y z t u v at lx ly lz ex ey ez low high set.rows px.holds pz.holds })
