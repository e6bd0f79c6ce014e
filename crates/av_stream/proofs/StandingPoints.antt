-- The point of a node that stands at coordinates in a cycle, by the inverse of the node's matrix.
use Rattle.std.proofs.Common.{◌≡◌, ℕ, inl, inr, mul-le-mul_right, ◌+◌, ◌*◌, ◌<◌, ◌≤◌, ℤ, pos, ◌+ℤ◌, ◌-ℤ◌, ◌*ℤ◌, ◌<ℤ◌, ◌≤ℤ◌, List, [], ◌∷◌, length, map, drop, get_or, Option, Some, None, refl, sym, ap, subst, ◌∙◌, arith, ◌≢◌}
use Rattle.std.specs.Prelude.{unsigned_abs, Any, IfNone}
use Rattle.std.specs.Int.{int_div_euclid}
use Rattle.std.proofs.Math.IntN.{*ℤ_comm}
use Rattle.std.proofs.Math.Nat.{mul_comm}
use Rattle.std.proofs.lemmas.Bool.{cases_lt}
use Rattle.std.proofs.lemmas.Int.{ints, unsigned_abs-mul}
use Rattle.std.proofs.lemmas.List.{nil_from_length, length-map, get_or-map}
use Rattle.av_affine.specs.declared.completion.Placed.{Placed}
use Rattle.av_affine.specs.Numbers.{dot, AtMost}
use Rattle.av_affine.specs.Completion.{first_row, rows_of, IsCompletion, beside_one, beside_two}
use Rattle.av_affine.proofs.Exact.{div_bounds}
use Rattle.av_affine.proofs.Order.{nonneg_by, positive_by}
use Rattle.av_affine.proofs.Ring.{ring}
use Rattle.av_tree.specs.Points.{Point}
use Rattle.av_flat.specs.declared.timed.Time.{Time}
use Rattle.av_flat.specs.Schedules.{cycle}
use Rattle.av_space.specs.Coordinates.{Placing, IsPlacing, point, space, along}
use Rattle.av_space.proofs.OneCell.{Inverts, scaled}
use Rattle.av_space.proofs.Placed.{rises}
use Rattle.av_stream.specs.inner.Standing.{IsMatrixOf, IsMatrixFor, placing_by, StandsAt}

-- ---- quotients

-- a multiple of a positive number divided by it
exact_quotient : (g d q : ℤ) → pos 0 <ℤ g → (q *ℤ g) ≤ℤ (g *ℤ d) → (g *ℤ d) <ℤ (q *ℤ g +ℤ g) → q ≡ d
exact_quotient g d q positive low high =
    let a = nonneg_by g (d -ℤ q) positive (simp ring (omega (arith, ints, low))) in
    let b = positive_by g (q +ℤ pos 1 -ℤ d) positive (simp ring (omega (arith, ints, high))) in
    omega (arith, ints, a, b)

pub quotient_is : (since g d : ℤ) → pos 0 <ℤ g → since ≡ g *ℤ d → int_div_euclid since g ≡ d
quotient_is since g d positive e =
    let b = div_bounds since g positive in
    exact_quotient g d (int_div_euclid since g) positive (subst (λ (n : ℤ). (int_div_euclid since g *ℤ g) ≤ℤ n) e b.0) (subst (λ (n : ℤ). n <ℤ (int_div_euclid since g *ℤ g +ℤ g)) e b.1)

-- a number has one quotient
one_quotient : (g d q : ℤ) → pos 0 <ℤ g → d *ℤ g ≡ q *ℤ g → d ≡ q
one_quotient g d q positive e =
    let turned : g *ℤ d ≡ g *ℤ q = *ℤ_comm g d ∙ e ∙ *ℤ_comm q g in
    let low = rises g (pos 0) d q positive (omega (arith, ints, turned)) in
    let high = rises g (pos 0) q d positive (omega (arith, ints, turned)) in
    omega (arith, ints, low, high)

-- a factor of a positive number is no greater in absolute value than the product
factor_most : (a b limit : ℕ) → 0 < b → a * b ≤ limit → a ≤ limit
factor_most a b limit some le = let m : 1 * a ≤ b * a = mul-le-mul_right a some in omega (arith, m, mul_comm a b, le)

pub factor_small : (n g since : ℤ) (limit : ℕ) → pos 0 <ℤ g → n *ℤ g ≡ since → unsigned_abs since ≤ limit → unsigned_abs n ≤ limit
factor_small n g since limit positive e le = factor_most (unsigned_abs n) (unsigned_abs g) limit (omega (arith, ints, positive)) (omega (arith, unsigned_abs-mul n g, ap unsigned_abs e, le))

-- ---- the matrix

first_of : (v : List ℤ) (rows : List (List ℤ)) → IsCompletion v rows → v ∷ drop 1 rows ≡ rows
first_of v rows (beside_one p s e) = ap (λ (r : List (List ℤ)). v ∷ drop 1 r) e ∙ sym e
first_of v rows (beside_two p q n s t e) = ap (λ (r : List (List ℤ)). v ∷ drop 1 r) e ∙ sym e

pub is_placing : (time : Time) (matrix : Option Placed) → IsMatrixFor time matrix → IsPlacing (placing_by time matrix)
is_placing time None is = point (nil_from_length time.linear is)
is_placing time (Some p) is = space (drop 1 (rows_of p.m)) (record {
  vector = first_row p.m;
  gcd = p.gcd;
  positive = is.positive;
  divided = is.divided;
  primitive = is.primitive;
  rule = subst (IsCompletion (first_row p.m)) (sym (first_of (first_row p.m) (rows_of p.m) is.rule)) is.rule;
})

-- the common divisor of numbers that are not all 0 is no greater than they are
pub divisor_small : (linear v : List ℤ) (g : ℤ) → pos 0 <ℤ g → Any (λ x. x ≢ pos 0) linear → AtMost 4 linear → linear ≡ map (λ x. g *ℤ x) v → g ≤ℤ pos 4
divisor_small linear v g positive some small divided =
    let k = some.0 in
    let l : length linear ≡ length v = ap length divided ∙ length-map v (λ x. g *ℤ x) in
    let most = small k some.1 some.2 in
    let here : g *ℤ get_or v k (pos 0) ≡ some.1 = sym (ap (λ (xs : List ℤ). get_or xs k some.1) divided ∙ get_or-map (λ x. g *ℤ x) v k (pos 0) some.1 (omega (arith, l, some.2))) ∙ some.3 in
    of_one g (get_or v k (pos 0)) some.1 positive here some.4 (omega (arith, most, ap unsigned_abs some.3))
  where
    of_one : (g y x : ℤ) → pos 0 <ℤ g → g *ℤ y ≡ x → x ≢ pos 0 → unsigned_abs x ≤ 4 → g ≤ℤ pos 4
    of_one g y x positive e other le = elim (cases_lt 0 (unsigned_abs y)) [
      | inl some ↦ (let m = factor_most (unsigned_abs g) (unsigned_abs y) 4 some (omega (arith, unsigned_abs-mul g y, ap unsigned_abs e, le)) in omega (arith, ints, m, positive))
      | inr none ↦ absurd (other (let z : y ≡ pos 0 = omega (arith, ints, none) in sym e ∙ ap (λ (n : ℤ). g *ℤ n) z ∙ omega (arith, ints)))
    ]

-- ---- points

module _ (time : Time) (p : Placed) (is : IsMatrixOf time.linear p) where
  abbrev placing : Placing
  placing = placing_by time (Some p)

  whole : first_row p.m ∷ drop 1 (rows_of p.m) ≡ rows_of p.m
  whole = first_of (first_row p.m) (rows_of p.m) is.rule

  pub inverts : Inverts placing (length time.linear)
  inverts = record {
    vector = first_row p.m;
    gcd = p.gcd;
    positive = is.positive;
    divided = is.divided;
    inverse = rows_of p.inverse;
    keeps = λ z size. ap (λ (rows : List (List ℤ)). along (rows_of p.inverse) (along rows z)) whole ∙ is.undone z size;
  }

  -- so many rows give so many entries
  image_size : (w : List ℤ) → length (along (rows_of p.inverse) w) ≡ length time.linear
  image_size w =
      let rows = rows_of p.inverse in
      let back = ap length (is.undone time.linear refl) in
      length-map rows (λ (row : List ℤ). dot row w) ∙ sym (length-map rows (λ (row : List ℤ). dot row (along (rows_of p.m) time.linear))) ∙ back

  by_vector : (z : Point) → dot time.linear z ≡ p.gcd *ℤ dot (first_row p.m) z
  by_vector z = ap (λ (l : List ℤ). dot l z) is.divided ∙ scaled p.gcd (first_row p.m) z

  -- the cycle of a point is that many times the divisor behind the offset
  since_is : (c : ℕ) (z : Point) → pos c ≡ cycle time z → (pos c -ℤ time.offset) ≡ p.gcd *ℤ dot (first_row p.m) z
  since_is c z in_cycle = let e = by_vector z in omega (arith, ints, e, in_cycle)

  -- so a point that stands there has a quotient
  pub divides : (at : List ℤ) (c : ℕ) (z : Point) → StandsAt placing at c z → dot (first_row p.m) z *ℤ p.gcd ≡ (pos c -ℤ time.offset)
  divides at c z stands = *ℤ_comm (dot (first_row p.m) z) p.gcd ∙ sym (since_is c z stands.in_cycle)

  -- and is what the inverse gives
  pub given_back : (at : List ℤ) (c : ℕ) (number : ℤ) (z : Point) → number *ℤ p.gcd ≡ (pos c -ℤ time.offset) → StandsAt placing at c z → z ≡ along (rows_of p.inverse) (number ∷ at)
  unfolding inverts
  given_back at c number z exact stands =
      let same : dot (first_row p.m) z ≡ number = one_quotient p.gcd (dot (first_row p.m) z) number is.positive (divides at c z stands ∙ sym exact) in
      sym (inverts.keeps z stands.size) ∙ ap (λ (n : ℤ). along (rows_of p.inverse) (n ∷ along (drop 1 (rows_of p.m)) z)) same
      ∙ ap (λ (w : List ℤ). along (rows_of p.inverse) (number ∷ w)) (sym stands.coordinates)

  -- what it gives stands there, where the quotient is exact
  pub stands_there : (at : List ℤ) (c : ℕ) (number : ℤ) (z : Point) → length at + 1 ≡ length time.linear → number *ℤ p.gcd ≡ (pos c -ℤ time.offset) → z ≡ along (rows_of p.inverse) (number ∷ at) → StandsAt placing at c z
  stands_there at c number z size exact given =
      let back : along (rows_of p.m) z ≡ number ∷ at = ap (along (rows_of p.m)) given ∙ is.undoes (number ∷ at) (omega (arith, size)) in
      let split : along (first_row p.m ∷ drop 1 (rows_of p.m)) z ≡ number ∷ at = ap (λ (rows : List (List ℤ)). along rows z) whole ∙ back in
      let first : dot (first_row p.m) z ≡ number = ap (λ (xs : List ℤ). get_or xs 0 (pos 0)) split in
      let rest : along (drop 1 (rows_of p.m)) z ≡ at = ap (λ (xs : List ℤ). drop 1 xs) split in
      let long : length z ≡ length time.linear = ap length given ∙ image_size (number ∷ at) in
      let e = by_vector z in
      let turned : p.gcd *ℤ dot (first_row p.m) z ≡ (pos c -ℤ time.offset) = ap (λ (n : ℤ). p.gcd *ℤ n) first ∙ *ℤ_comm p.gcd number ∙ exact in
      record { size = long; coordinates = sym rest; in_cycle = omega (arith, ints, e, turned) }

  -- the rows below the first one
  pub rows_below : length (drop 1 (rows_of p.m)) + 1 ≡ length time.linear
  rows_below =
      let all = ap length whole in
      let each = length-map (rows_of p.m) (λ (row : List ℤ). dot row (along (rows_of p.inverse) time.linear)) in
      let back = ap length (is.undoes time.linear refl) in
      omega (arith, all, each, back)

  -- a node has four indices at most
  pub size_below : (at : List ℤ) → length at + 1 ≡ length time.linear → length at < 4
  size_below at size = let few = is.few in omega (arith, size, few)

-- ---- a node without indices has one point

pub only_point : (time : Time) (at : List ℤ) (c : ℕ) → length time.linear ≡ 0 → length at ≡ 0 → pos c ≡ time.offset → StandsAt (placing_by time None) at c []
only_point time at c none empty in_cycle = record {
  size = sym none;
  coordinates = nil_from_length at empty;
  in_cycle = in_cycle ∙ sym (ap (λ (l : List ℤ). dot l [] +ℤ time.offset) (nil_from_length time.linear none) ∙ omega (arith, ints));
}

pub no_other_point : (time : Time) (at : List ℤ) (c : ℕ) (z : Point) → length time.linear ≡ 0 → StandsAt (placing_by time None) at c z → (z ≡ []) × (pos c ≡ time.offset)
no_other_point time at c z none stands = (
  nil_from_length z (stands.size ∙ none),
  stands.in_cycle ∙ ap (λ (l : List ℤ). dot l z +ℤ time.offset) (nil_from_length time.linear none) ∙ omega (arith, ints),
)

-- what follows from a clause on the other outcome
pub none_then : {X P Q : Type 0} (r : Option X) → IfNone r P → (P → Q) → IfNone r Q
none_then None h f = f h
none_then (Some x) h f = tt
