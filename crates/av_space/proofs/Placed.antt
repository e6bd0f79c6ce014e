-- The coordinates of a node's points have an inverse, where the cycle stands before them.
use Rattle.std.proofs.Common.{◌≡◌, ℕ, ◌≤◌, ℤ, pos, ◌+ℤ◌, ◌-ℤ◌, ◌*ℤ◌, ◌≤ℤ◌, ◌<ℤ◌, IsTrue, List, [], ◌∷◌, length, refl, sym, ap, subst, ◌∙◌, arith}
use Rattle.std.proofs.lemmas.Int.{ints}
use Rattle.std.proofs.lemmas.List.{length-map}
use Rattle.av_affine.specs.Numbers.{dot}
use Rattle.av_affine.proofs.Order.{nonneg_by}
use Rattle.av_poly.specs.Points.{Set}
use Rattle.av_tree.specs.Points.{Point}
use Rattle.av_flat.specs.declared.timed.Time.{Time}
use Rattle.av_flat.specs.Points.{has}
use Rattle.av_flat.specs.Schedules.{cycle}
use Rattle.av_space.specs.Coordinates.{AreSpaceRows, Placing, IsPlacing, point, space, along}
use Rattle.av_space.proofs.Between.{Keeps, one_image, between_images, straight}
use Rattle.av_space.proofs.Completed.{has_inverse}
use Rattle.av_space.proofs.OneCell.{Inverts, scaled}

-- ---- placings

pub inverts : (time : Time) (rows : List (List ℤ)) → AreSpaceRows time.linear rows → length time.linear ≤ 4 → Inverts (record { time = time; rows = rows }) (length time.linear)
inverts time rows a few =
    let size : length time.linear ≡ length a.vector = ap (λ (l : List ℤ). length l) a.divided ∙ length-map a.vector (λ x. a.gcd *ℤ x) in
    let i = has_inverse a.vector (a.vector ∷ rows) (let l = size in omega (arith, few, l)) a.rule in
    record {
      vector = a.vector;
      gcd = a.gcd;
      positive = a.positive;
      divided = a.divided;
      inverse = i.0;
      keeps = subst (λ (n : ℕ). Keeps (a.vector ∷ rows) i.0 n) (sym size) i.1;
    }

pub has_inverse_rows : (linear : List ℤ) (rows : List (List ℤ)) → (a : AreSpaceRows linear rows) → length linear ≤ 4
    → (inverse : List (List ℤ)) × ((z : Point) → length z ≡ length linear → along inverse (along (a.vector ∷ rows) z) ≡ z)
has_inverse_rows linear rows a few =
    let size : length linear ≡ length a.vector = ap (λ (l : List ℤ). length l) a.divided ∙ length-map a.vector (λ x. a.gcd *ℤ x) in
    let i = has_inverse a.vector (a.vector ∷ rows) (let l = size in omega (arith, few, l)) a.rule in
    (i.0, subst (λ (n : ℕ). (z : Point) → length z ≡ n → along i.0 (along (a.vector ∷ rows) z) ≡ z) (sym size) i.1)

pub rises : (g o t u : ℤ) → pos 0 <ℤ g → (g *ℤ t +ℤ o) ≤ℤ (g *ℤ u +ℤ o) → t ≤ℤ u
rises g o t u positive le =
    let s = straight g t u in
    let k : pos 0 ≤ℤ (g *ℤ (u -ℤ t)) = omega (arith, ints, s, le) in
    let r = nonneg_by g (u -ℤ t) positive k in
    omega (arith, ints, r)

-- the cycle of a point, by its product with the vector
by_vector : (p : Placing) (n : ℕ) (i : Inverts p n) (z : Point) → cycle p.time z ≡ i.gcd *ℤ dot i.vector z +ℤ p.time.offset
by_vector p n i z = ap (λ k. k +ℤ p.time.offset) (ap (λ (l : List ℤ). dot l z) i.divided ∙ scaled i.gcd i.vector z)

in_turn : (p : Placing) (n : ℕ) (i : Inverts p n) (y z : Point) → cycle p.time y ≤ℤ cycle p.time z → dot i.vector y ≤ℤ dot i.vector z
in_turn p n i y z le =
    let a = by_vector p n i y in
    let b = by_vector p n i z in
    rises i.gcd p.time.offset (dot i.vector y) (dot i.vector z) i.positive (omega (arith, ints, a, b, le))

one_of_cell : (p : Placing) (n : ℕ) → Inverts p n → (y z : Point) → length y ≡ n → length z ≡ n → along p.rows y ≡ along p.rows z → cycle p.time y ≡ cycle p.time z → y ≡ z
one_of_cell p n i y z ly lz at e =
    let low = in_turn p n i y z (omega (arith, ints, e)) in
    let high = in_turn p n i z y (omega (arith, ints, e)) in
    let same : dot i.vector y ≡ dot i.vector z = omega (arith, ints, low, high) in
    one_image (i.vector ∷ p.rows) i.inverse n i.keeps y z ly lz (ap (λ k. k ∷ along p.rows y) same ∙ ap (λ (w : List ℤ). dot i.vector z ∷ w) at)

pub empty : (z : Point) → length z ≡ 0 → z ≡ []
empty [] e = refl
empty (x ∷ z) e = absurd (omega (arith, e))

pub one_point : (p : Placing) → IsPlacing p → length p.time.linear ≤ 4 → (y z : Point) → length y ≡ length p.time.linear → length z ≡ length p.time.linear
    → along p.rows y ≡ along p.rows z → cycle p.time y ≡ cycle p.time z → y ≡ z
one_point p (point {time} none) few y z ly lz at e =
    let size : length time.linear ≡ 0 = ap (λ (l : List ℤ). length l) none in
    empty y (ly ∙ size) ∙ sym (empty z (lz ∙ size))
one_point p (space {time} rows a) few y z ly lz at e = one_of_cell (record { time = time; rows = rows }) (length time.linear) (inverts time rows a few) y z ly lz at e

between_of_cell : (p : Placing) (n : ℕ) → Inverts p n → (set : Set) (x y z : Point) → length x ≡ n → length y ≡ n → length z ≡ n
    → along p.rows x ≡ along p.rows y → along p.rows z ≡ along p.rows y → cycle p.time x ≤ℤ cycle p.time y → cycle p.time y ≤ℤ cycle p.time z
    → IsTrue (has set x) → IsTrue (has set z) → IsTrue (has set y)
between_of_cell p n i set x y z lx ly lz ax az low high hx hz =
    between_images (i.vector ∷ p.rows) i.inverse n i.keeps set x y z (dot i.vector x) (dot i.vector y) (dot i.vector z) (along p.rows y) lx ly lz
    (ap (λ (w : List ℤ). dot i.vector x ∷ w) ax) refl (ap (λ (w : List ℤ). dot i.vector z ∷ w) az) (in_turn p n i x y low) (in_turn p n i y z high) hx hz

pub between_points : (p : Placing) → IsPlacing p → length p.time.linear ≤ 4 → (set : Set) (x y z : Point) → length x ≡ length p.time.linear → length y ≡ length p.time.linear → length z ≡ length p.time.linear
    → along p.rows x ≡ along p.rows y → along p.rows z ≡ along p.rows y → cycle p.time x ≤ℤ cycle p.time y → cycle p.time y ≤ℤ cycle p.time z
    → IsTrue (has set x) → IsTrue (has set z) → IsTrue (has set y)
between_points p (point {time} none) few set x y z lx ly lz ax az low high hx hz =
    let size : length time.linear ≡ 0 = ap (λ (l : List ℤ). length l) none in
    subst (λ (w : Point). IsTrue (has set w)) (empty x (lx ∙ size) ∙ sym (empty y (ly ∙ size))) hx
between_points p (space {time} rows a) few set x y z lx ly lz ax az low high hx hz =
    between_of_cell (record { time = time; rows = rows }) (length time.linear) (inverts time rows a few) set x y z lx ly lz ax az low high hx hz
