-- Factors of terms, and what terms add to a constant, added term by term.
use Rattle.std.proofs.Common.{◌≡◌, ℕ, ◌+◌, ◌*◌, ◌^◌, ◌<◌, ◌≤◌, ℤ, pos, ◌+ℤ◌, List, length, get_or, drop, Bool, true, false, if◌then◌else◌, sym, ap, subst, arith, All, FitsSigned, lit<}
use Rattle.std.specs.Prelude.{unsigned_abs}
use mir.Syntax.{w128}
use Rattle.std.proofs.lemmas.Int.{ints, fits_signed_from_abs}
use Rattle.std.proofs.lemmas.List.Elements.{All-get_or}
use Rattle.av_base.proofs.Lists.{next_item}
use Rattle.av_tree.specs.declared.domain.Term.{Term}
use Rattle.av_tree.specs.Trees.{Text}
use Rattle.av_tree.specs.Points.{Sizes, is_named}
use Rattle.av_tree.specs.Rows as rows
use Rattle.av_names.specs.inner.ShortSums.{IsShort}

-- ---- the factors of one name

own_or_none : (own : Bool) (x : ℤ) → unsigned_abs x < 2 ^ 64 → unsigned_abs (if own then x else pos 0) < 2 ^ 64
own_or_none true x h = h
own_or_none false x h = lit< tt

pub short_at : (terms : List Term) (i : ℕ) (t : Term) → All IsShort terms → i < length terms → t ≡ get_or terms i t → unsigned_abs t.factor < 2 ^ 64
short_at terms i t all lt at = subst (λ (x : Term). IsShort x) (sym at) (All-get_or (λ (x : Term). IsShort x) terms i t lt all)

pub factor_small : (terms : List Term) (name : Text) (i : ℕ) (t : Term) (r : ℤ) → All IsShort terms → i < length terms → t ≡ get_or terms i t
    → r ≡ (if is_named name t.name then t.factor else pos 0) → unsigned_abs r < 2 ^ 64
factor_small terms name i t r all lt at is =
    subst (λ (x : ℤ). unsigned_abs x < 2 ^ 64) (sym is) (own_or_none (is_named name t.name) t.factor (short_at terms i t all lt at))

pub factors_fit : (sum r : ℤ) (i : ℕ) → i < 2 ^ 32 → unsigned_abs sum ≤ 2 ^ 64 * i → unsigned_abs r < 2 ^ 64 → FitsSigned w128 (sum +ℤ r)
factors_fit sum r i few h k = fits_signed_from_abs w128 (sum +ℤ r) (omega (arith, ints, few, h, k))

pub factors_small : (sum r : ℤ) (i : ℕ) → unsigned_abs sum ≤ 2 ^ 64 * i → unsigned_abs r < 2 ^ 64 → unsigned_abs (sum +ℤ r) ≤ 2 ^ 64 * (i + 1)
factors_small sum r i h k = omega (arith, ints, h, k)

pub factor_more : (terms : List Term) (name : Text) (i : ℕ) (t : Term) (sum r : ℤ) → i < length terms → t ≡ get_or terms i t → r ≡ (if is_named name t.name then t.factor else pos 0)
    → sum +ℤ rows.coefficient (drop i terms) name ≡ rows.coefficient terms name → (sum +ℤ r) +ℤ rows.coefficient (drop (i + 1) terms) name ≡ rows.coefficient terms name
factor_more terms name i t sum r lt at is so_far =
    let split = ap (λ (ts : List Term). rows.coefficient ts name) (next_item terms i t lt at) in
    omega (arith, ints, split, is, so_far)

-- ---- the constant

pub parts_fit : (sum r : ℤ) (i : ℕ) → i < 2 ^ 32 → unsigned_abs sum ≤ 2 ^ 84 * i → unsigned_abs r ≤ 2 ^ 84 → FitsSigned w128 (sum +ℤ r)
parts_fit sum r i few h k = fits_signed_from_abs w128 (sum +ℤ r) (omega (arith, ints, few, h, k))

pub parts_small : (sum r : ℤ) (i : ℕ) → unsigned_abs sum ≤ 2 ^ 84 * i → unsigned_abs r ≤ 2 ^ 84 → unsigned_abs (sum +ℤ r) ≤ 2 ^ 84 * (i + 1)
parts_small sum r i h k = omega (arith, ints, h, k)

pub part_more : (sizes : Sizes) (names : List Text) (terms : List Term) (i : ℕ) (t : Term) (sum r : ℤ) → i < length terms → t ≡ get_or terms i t → r ≡ rows.fixed sizes names t.factor t.name
    → sum +ℤ rows.constant sizes names (drop i terms) ≡ rows.constant sizes names terms → (sum +ℤ r) +ℤ rows.constant sizes names (drop (i + 1) terms) ≡ rows.constant sizes names terms
part_more sizes names terms i t sum r lt at is so_far =
    let split = ap (λ (ts : List Term). rows.constant sizes names ts) (next_item terms i t lt at) in
    omega (arith, ints, split, is, so_far)
