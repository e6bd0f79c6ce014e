-- The rows of comparisons hold at a point exactly where the comparisons do.
use Rattle.std.proofs.Common.{◌≡◌, ◌≢◌, ℕ, ◌≤◌, ◌⊎◌, inl, inr, Bool, true, false, ◌&&◌, IsTrue, List, [], ◌∷◌, map, length, refl, sym, ap, ap₂, ◌∙◌, arith, All, ℤ, pos, ◌-ℤ◌, ◌<ℤ◌, nat_eq}
use Rattle.std.specs.Prelude.{int_le, int_lt}
use Rattle.std.specs.List.{list_all, flat_map}
use Rattle.std.proofs.lemmas.Int.{ints}
use Rattle.std.proofs.lemmas.List.{map-append}
use Rattle.std.proofs.lemmas.List.Folds.{list_all-append}
use Rattle.std.proofs.lemmas.List.Elements.{All-head, All-tail}
use Rattle.av_base.specs.declared.place.Place.{Place}
use Rattle.av_affine.specs.Forms.{value_at}
use Rattle.av_tree.specs.declared.domain.IndexExpr.{IndexExpr}
use Rattle.av_tree.specs.declared.domain.Constraint.{Constraint}
use Rattle.av_tree.specs.declared.domain.DomainText.{DomainText}
use Rattle.av_tree.specs.declared.relation.Relation.{Relation}
use Rattle.av_tree.specs.declared.relation.Relation.TheVariants as relation
use Rattle.av_tree.specs.Trees.{Text}
use Rattle.av_tree.specs.Points.{Point, Sizes, in_reach, have_length}
use Rattle.av_tree.specs.Domains.{compares, all_hold, is_point, is_within}
use Rattle.av_tree.specs.Rows.{coefficient, at_least, compared}
use Rattle.av_flat.specs.Points.{has, holds}
use Rattle.av_flat.proofs.Sets.{at_most, is_at_most, equal, is_equal}
use Rattle.av_names.specs.Forms.{Context, form_of, form_of_row, rows_over, set_of, restriction_set}
use Rattle.av_names.specs.Regular.{AreDistinct, IsComparison, IsDomain, Restricts}
use Rattle.av_names.proofs.Terms.{Names, few_mapped, dot_filled, dot_difference, index_value}
use Rattle.av_base.proofs.Truths.{same_truth}

-- ---- tests

is_below : (j k : ℤ) → j <ℤ k → IsTrue (int_lt j k)
is_below j k h = go (int_lt j k) refl
  where
    go : (t : Bool) → int_lt j k ≡ t → IsTrue (int_lt j k)
    go true e = e
    go false e = absurd (omega (arith, ints, h, e))

below : (j k : ℤ) → IsTrue (int_lt j k) → j <ℤ k
below j k h = omega (arith, ints, h)

-- one row each
row_less : (j k v : ℤ) → v ≡ k -ℤ j -ℤ pos 1 → int_lt j k ≡ int_le (pos 0) v
row_less j k v e = same_truth (int_lt j k) (int_le (pos 0) v)
    (λ h. is_at_most (pos 0) v (let p = below j k h in omega (arith, ints, p, e)))
    (λ h. is_below j k (let p = at_most (pos 0) v h in omega (arith, ints, p, e)))

row_most : (j k v : ℤ) → v ≡ k -ℤ j -ℤ pos 0 → int_le j k ≡ int_le (pos 0) v
row_most j k v e = same_truth (int_le j k) (int_le (pos 0) v)
    (λ h. is_at_most (pos 0) v (let p = at_most j k h in omega (arith, ints, p, e)))
    (λ h. is_at_most j k (let p = at_most (pos 0) v h in omega (arith, ints, p, e)))

pub and_true : (b : Bool) → b && true ≡ b
and_true true = refl
and_true false = refl

pub and_false : (b : Bool) → b && false ≡ false
and_false true = refl
and_false false = refl

and_turned : (a b : Bool) → a && b ≡ b && a
and_turned true b = sym (and_true b)
and_turned false b = sym (and_false b)

-- ---- rows

row_value : (sizes : Sizes) (names : List Text) (z : Point) (a b : IndexExpr) (gap : ℤ) → Names names z
    → value_at (form_of_row (at_least sizes names a b gap)) z ≡ value_at (form_of sizes names a) z -ℤ value_at (form_of sizes names b) z -ℤ gap
row_value sizes names z a b gap n =
    let d = dot_filled (map (λ m. coefficient a.terms m -ℤ coefficient b.terms m) names) z (few_mapped (λ m. coefficient a.terms m -ℤ coefficient b.terms m) names n.few) in
    let e = dot_difference names (coefficient a.terms) (coefficient b.terms) z in
    let f = dot_filled (map (coefficient a.terms) names) z (few_mapped (coefficient a.terms) names n.few) in
    let g = dot_filled (map (coefficient b.terms) names) z (few_mapped (coefficient b.terms) names n.few) in
    omega (arith, ints, d, e, f, g)

-- whether the rows of one comparison hold
abbrev rows_hold : Sizes → List Text → Point → IndexExpr → Relation → IndexExpr → Bool
rows_hold sizes names z a r b = list_all (holds z) (map form_of_row (compared sizes names a r b))

abbrev value_of : Sizes → List Text → Point → IndexExpr → ℤ
value_of sizes names z e = value_at (form_of sizes names e) z

abbrev row_at : Sizes → List Text → Point → IndexExpr → IndexExpr → ℤ → ℤ
row_at sizes names z a b gap = value_at (form_of_row (at_least sizes names a b gap)) z

compared_rows : (sizes : Sizes) (names : List Text) (z : Point) (a : IndexExpr) (r : Relation) (b : IndexExpr) → Names names z → r ≢ relation.Unequal
    → compares r (value_of sizes names z a) (value_of sizes names z b) ≡ rows_hold sizes names z a r b
compared_rows sizes names z a relation.Less b n u =
    row_less (value_of sizes names z a) (value_of sizes names z b) (row_at sizes names z b a (pos 1)) (row_value sizes names z b a (pos 1) n) ∙ sym (and_true _)
compared_rows sizes names z a relation.LessEqual b n u =
    row_most (value_of sizes names z a) (value_of sizes names z b) (row_at sizes names z b a (pos 0)) (row_value sizes names z b a (pos 0) n) ∙ sym (and_true _)
compared_rows sizes names z a relation.Greater b n u =
    row_less (value_of sizes names z b) (value_of sizes names z a) (row_at sizes names z a b (pos 1)) (row_value sizes names z a b (pos 1) n) ∙ sym (and_true _)
compared_rows sizes names z a relation.GreaterEqual b n u =
    row_most (value_of sizes names z b) (value_of sizes names z a) (row_at sizes names z a b (pos 0)) (row_value sizes names z a b (pos 0) n) ∙ sym (and_true _)
compared_rows sizes names z a relation.Equal b n u =
    let p = row_most (value_of sizes names z a) (value_of sizes names z b) (row_at sizes names z b a (pos 0)) (row_value sizes names z b a (pos 0) n) in
    let q = row_most (value_of sizes names z b) (value_of sizes names z a) (row_at sizes names z a b (pos 0)) (row_value sizes names z a b (pos 0) n) in
    ap₂ (λ s t. s && t) p q
    ∙ and_turned (holds z (form_of_row (at_least sizes names b a (pos 0)))) (holds z (form_of_row (at_least sizes names a b (pos 0))))
    ∙ ap (λ t. holds z (form_of_row (at_least sizes names a b (pos 0))) && t) (sym (and_true _))
compared_rows sizes names z a relation.Unequal b n u = absurd (u refl)

pub all_rows : (sizes : Sizes) (names : List Text) (z : Point) (constraints : List Constraint) → Names names z → All (IsComparison sizes names) constraints
    → all_hold (in_reach sizes names z) constraints ≡ list_all (holds z) (rows_over sizes names constraints)
all_rows sizes names z [] n h = refl
all_rows sizes names z (c ∷ constraints) n h =
    let k = All-head (IsComparison sizes names) c constraints h in
    let rest = all_rows sizes names z constraints n (All-tail (IsComparison sizes names) c constraints h) in
    let first = compared_rows sizes names z c.left c.relation c.right n k.related in
    let rows = flat_map (λ b. compared sizes names b.left b.relation b.right) constraints in
    let split = ap (list_all (holds z)) (map-append form_of_row (compared sizes names c.left c.relation c.right) rows)
    ∙ list_all-append (holds z) (map form_of_row (compared sizes names c.left c.relation c.right)) (map form_of_row rows) in
    rw (index_value sizes names z c.left n k.left, index_value sizes names z c.right n k.right, first, rest) (sym split)

-- ---- sets

turned_equal : (m n : ℕ) → nat_eq m n ≡ nat_eq n m
turned_equal m n = same_truth (nat_eq m n) (nat_eq n m) (λ h. is_equal n m (sym (equal m n h))) (λ h. is_equal m n (sym (equal n m h)))

own_names : (names : List Text) (z : Point) → AreDistinct names → length names ≤ 4 → length names ≡ length z → Names names z
own_names names z d f e = record { distinct = d; few = f; suits = inr e }

same_points : (sizes : Sizes) (names : List Text) (constraints : List Constraint) (z : Point) → AreDistinct names → length names ≤ 4 → All (IsComparison sizes names) constraints
    → nat_eq (length z) (length names) && list_all (holds z) (rows_over sizes names constraints) ≡ have_length names z && all_hold (in_reach sizes names z) constraints
same_points sizes names constraints z d f h = rw (turned_equal (length z) (length names)) (go (nat_eq (length names) (length z)) refl)
  where
    go : (t : Bool) → nat_eq (length names) (length z) ≡ t → t && list_all (holds z) (rows_over sizes names constraints) ≡ t && all_hold (in_reach sizes names z) constraints
    go true e = sym (all_rows sizes names z constraints (own_names names z d f (equal (length names) (length z) e)) h)
    go false e = refl

-- a domain's set has the domain's points
pub set_has : (sizes : Sizes) (d : DomainText) (z : Point) → IsDomain sizes d → has (set_of sizes d) z ≡ is_point sizes d z
set_has sizes d z h = same_points sizes d.names d.constraints z h.distinct h.few h.constraints

within : (sizes : Sizes) (c : Context) (names : List Text) (constraints : List Constraint) (place : Place) (z : Point)
    → Names c.names z → length z ≡ c.indices → c.indices ≤ 4 → Restricts sizes c (record { names = names; constraints = constraints; place = place })
    → has (restriction_set sizes c (record { names = names; constraints = constraints; place = place })) z
    ≡ is_within sizes c.names (record { names = names; constraints = constraints; place = place }) z
within sizes c [] constraints place z n e f h = rw (is_equal (length z) c.indices e) (sym (all_rows sizes c.names z constraints n h.constraints))
within sizes c (m ∷ names) constraints place z n e f h = go h.arity
  where
    go : (m ∷ names ≡ []) ⊎ (length (m ∷ names) ≡ c.indices)
        → nat_eq (length z) c.indices && list_all (holds z) (rows_over sizes (m ∷ names) constraints) ≡ have_length (m ∷ names) z && all_hold (in_reach sizes (m ∷ names) z) constraints
    go (inl p) = absurd cc
    go (inr p) = rw (← p) (same_points sizes (m ∷ names) constraints z h.distinct (omega (arith, p, f)) h.constraints)

-- a restriction's set has the domain's points
pub restriction_has : (sizes : Sizes) (c : Context) (d : DomainText) (z : Point) → Names c.names z → length z ≡ c.indices → c.indices ≤ 4 → Restricts sizes c d
    → has (restriction_set sizes c d) z ≡ is_within sizes c.names d z
restriction_has sizes c d z n e f h = within sizes c d.names d.constraints d.place z n e f h
