-- Computations on one cell.
use Rattle.std.proofs.Common.{◌≡◌, ℕ, ◌≤◌, List, [], ◌∷◌, length, map, sym, subst, arith, ◌∙◌, ap, ℤ, pos, ◌+ℤ◌, ◌-ℤ◌, ◌*ℤ◌, ◌≤ℤ◌, ◌<ℤ◌, Option, Some}
use Rattle.std.specs.Prelude.{slice_get}
use Rattle.std.proofs.lemmas.Int.{ints}
use Rattle.av_affine.specs.Numbers.{dot}
use Rattle.av_affine.proofs.Ring.{ring, cube}
use Rattle.av_affine.proofs.Order.{nonneg_by}
use Rattle.av_tree.specs.Points.{Point}
use Rattle.av_flat.specs.Trees.{FlatSystem}
use Rattle.av_space.specs.declared.cells.Cell.{Cell}
use Rattle.av_flat.specs.Schedules.{cycle}
use Rattle.av_space.specs.Coordinates.{Placing, along}
use Rattle.av_space.specs.Occupancy.{Computes}
use Rattle.av_space.proofs.Between.{Keeps, straight}

some_is : {X : Type 0} (x y : X) (o : Option X) → o ≡ Some x → o ≡ Some y → x ≡ y
some_is x y o e f = cc

-- one node to a cell
pub one_node : (s : FlatSystem) (placings : List Placing) (cells : List Cell) (p a b n k : ℕ) (x y : Point) → Computes s placings cells p a n x → Computes s placings cells p b k y → n ≡ k
one_node s placings cells p a b n k x y h g =
    let e : h.cell ≡ g.cell = some_is h.cell g.cell (slice_get cells p) h.is_cell g.is_cell in
    sym h.stands.node ∙ ap (λ (c : Cell). c.node) e ∙ g.stands.node

-- what is known of the placing of a node with indices: an inverse of its rows, where the vector stands before them
pub record Inverts (placing : Placing) (n : ℕ) : Type 0 where
  pub vector : List ℤ
  pub gcd : ℤ
  pub positive : pos 0 <ℤ gcd
  pub divided : placing.time.linear ≡ map (λ x. gcd *ℤ x) vector
  pub inverse : List (List ℤ)
  pub keeps : Keeps (vector ∷ placing.rows) inverse n

pub scaled : (g : ℤ) (v z : List ℤ) → dot (map (λ x. g *ℤ x) v) z ≡ g *ℤ dot v z
scaled g [] z = omega (arith, ints)
scaled g (x ∷ v) [] = omega (arith, ints)
scaled g (x ∷ v) (y ∷ z) = rw (scaled g v z) (simp ring (omega (arith, ints, cube)))

-- the cycle of a point is affine in its product with the vector
cycle_is : (placing : Placing) (n : ℕ) (i : Inverts placing n) (c : ℕ) (z : Point) → pos c ≡ cycle placing.time z → pos c ≡ i.gcd *ℤ dot i.vector z +ℤ placing.time.offset
cycle_is placing n i c z e = e ∙ ap (λ k. k +ℤ placing.time.offset) (ap (λ (l : List ℤ). dot l z) i.divided ∙ scaled i.gcd i.vector z)

in_order : (g o t u : ℤ) (a b : ℕ) → pos 0 <ℤ g → pos a ≡ g *ℤ t +ℤ o → pos b ≡ g *ℤ u +ℤ o → a ≤ b → t ≤ℤ u
in_order g o t u a b positive ea eb le =
    let s = straight g t u in
    let k : pos 0 ≤ℤ (g *ℤ (u -ℤ t)) = omega (arith, ints, s, ea, eb) in
    let r = nonneg_by g (u -ℤ t) positive k in
    omega (arith, ints, r)

-- on a cell two points of one cycle are one
pub same_point : (s : FlatSystem) (placings : List Placing) (cells : List Cell) (p n : ℕ) (placing : Placing) (dim : ℕ) → slice_get placings n ≡ Some placing → Inverts placing dim
    → (c : ℕ) (x y : Point) → length x ≡ dim → length y ≡ dim → Computes s placings cells p c n x → Computes s placings cells p c n y → x ≡ y
same_point s placings cells p n placing dim is i c x y lx ly hx hy =
    let at = along placing.rows x in
    let same_x : hx.stands.placing ≡ placing = some_is hx.stands.placing placing (slice_get placings n) hx.stands.is_placing is in
    let same_y : hy.stands.placing ≡ placing = some_is hy.stands.placing placing (slice_get placings n) hy.stands.is_placing is in
    let cell_y : hx.cell ≡ hy.cell = some_is hx.cell hy.cell (slice_get cells p) hx.is_cell hy.is_cell in
    let at_x : hx.cell.at ≡ at = hx.stands.at ∙ ap (λ (q : Placing). along q.rows x) same_x in
    let at_y : along placing.rows y ≡ at = ap (λ (q : Placing). along q.rows y) (sym same_y) ∙ sym hy.stands.at ∙ ap (λ (k : Cell). k.at) (sym cell_y) ∙ at_x in
    let t = dot i.vector x in
    let u = dot i.vector y in
    let cx = cycle_is placing dim i c x (subst (λ (q : Placing). pos c ≡ cycle q.time x) same_x hx.stands.in_cycle) in
    let cy = cycle_is placing dim i c y (subst (λ (q : Placing). pos c ≡ cycle q.time y) same_y hy.stands.in_cycle) in
    let low = in_order i.gcd placing.time.offset t u c c i.positive cx cy (omega arith) in
    let high = in_order i.gcd placing.time.offset u t c c i.positive cy cx (omega arith) in
    let e : t ≡ u = omega (arith, ints, low, high) in
    let rows : along (i.vector ∷ placing.rows) x ≡ along (i.vector ∷ placing.rows) y = ap (λ k. k ∷ along placing.rows x) e ∙ ap (λ (w : List ℤ). u ∷ w) (sym at_y) in
    sym (i.keeps x lx) ∙ ap (along i.inverse) rows ∙ i.keeps y ly
