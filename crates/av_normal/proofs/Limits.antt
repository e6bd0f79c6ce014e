-- Where no set or map of a system is above a limit, each has few rows and small numbers.
use Rattle.std.proofs.Common.{ℕ, ◌≤◌, ◌^◌, inl, inr, List, [], ◌∷◌, ◌++◌, length, map, refl, sym, subst, append_assoc, All}
use Rattle.std.specs.List.{flat_map}
use Rattle.std.proofs.lemmas.Bool.{cases_lt}
use Rattle.std.proofs.lemmas.List.Elements.{All-nil, All-cons, All-head, All-tail, All-push, All-weaker}
use Rattle.av_affine.specs.declared.form.Form.{Form}
use Rattle.av_affine.specs.Forms.{IsWithinLimits}
use Rattle.av_affine.specs.Maps.{greatest_coefficient, greatest_constant}
use Rattle.av_affine.proofs.Composing.{within_limits}
use Rattle.av_poly.specs.Points.{Set}
use Rattle.av_poly.specs.Normal.{AreNormalised}
use Rattle.av_affine.specs.declared.map.Map.{Map}
use Rattle.av_flat.specs.declared.quantity.Quantity.{Quantity}
use Rattle.av_flat.specs.declared.quantity.Quantity.TheVariants as quantity
use Rattle.av_flat.specs.Trees.{Variable, FlatSystem, right_side}
use Rattle.av_flat.specs.Signatures.{Signature, signatures}
use Rattle.av_flat.specs.Sets.{HasFewRows}
use Rattle.av_flat.specs.Pieces.{Part, pieces_of}
use Rattle.av_flat.specs.Quantities.{IsFirst, Measured, of_set, of_map, measured, composed_maps, body_sets, IsOverNumbers, IsOver, HasWideSets}
use Rattle.av_normal.specs.NormalForm.{IsNormalised, set_of}
use Rattle.av_normal.proofs.Normalised.{normalised_again}
use Rattle.av_base.proofs.Lists.{all_parts}

-- ---- where there is no first, there is none

none_after : {X : Type 0} (P : X → Type 0) (before xs : List X) → All (λ x. P x → ⊥) before → ((x : X) → IsFirst P (before ++ xs) x → ⊥) → All (λ x. P x → ⊥) xs
none_after P before [] h f = All-nil (λ x. P x → ⊥)
none_after P before (x ∷ xs) h f =
    let here : P x → ⊥ = λ p. f x (record { before = before; after = xs; is = refl; not_before = h; here = p }) in
    All-cons (λ y. P y → ⊥) x xs here (none_after P (before ++ x ∷ []) xs (All-push (λ y. P y → ⊥) before x h here)
    (λ y first. f y (subst (λ ys. IsFirst P ys y) (append_assoc before (x ∷ []) xs) first)))

pub none_first : {X : Type 0} (P : X → Type 0) (xs : List X) → ((x : X) → IsFirst P xs x → ⊥) → All (λ x. P x → ⊥) xs
none_first P xs f = none_after P [] xs (All-nil (λ x. P x → ⊥)) f

-- ---- lists put together

pub all_spread_parts : {X Y : Type 0} (P : Y → Type 0) (g : X → List Y) (xs : List X) → All P (flat_map g xs) → All (λ x. All P (g x)) xs
all_spread_parts P g [] h = All-nil (λ x. All P (g x))
all_spread_parts P g (x ∷ xs) h =
    let r = all_parts P (g x) (flat_map g xs) h in All-cons (λ y. All P (g y)) x xs r.0 (all_spread_parts P g xs r.1)

pub all_sources : {X Y : Type 0} (P : Y → Type 0) (f : X → Y) (xs : List X) → All P (map f xs) → All (λ x. P (f x)) xs
all_sources P f [] h = All-nil (λ x. P (f x))
all_sources P f (x ∷ xs) h = All-cons (λ y. P (f y)) x xs (All-head P (f x) (map f xs) h) (all_sources P f xs (All-tail P (f x) (map f xs) h))

-- ---- within the limits

-- no quantity of it is above its limit
abbrev pub IsWithin : Measured → Type 0
IsWithin o = (k : Quantity) × (n : ℕ) × IsOver o k n → ⊥

small_rows : (rows : List Form) → ((k : Quantity) (n : ℕ) → IsOverNumbers rows k n → ⊥) → All IsWithinLimits rows
small_rows rows h = elim (cases_lt 1024 (greatest_coefficient rows)) [
  | inl l ↦ absurd (h quantity.Coefficient (greatest_coefficient rows) (inl (refl, refl, l)))
  | inr l ↦ elim (cases_lt (2 ^ 20) (greatest_constant rows)) [
    | inl m ↦ absurd (h quantity.Constant (greatest_constant rows) (inr (refl, l, refl, m)))
    | inr m ↦ within_limits rows l m
  ]
]

pub small_map : (m : Map) → IsWithin (of_map m) → All IsWithinLimits m.rows
small_map m h = small_rows m.rows (λ k n over. h (k, n, over))

pub small_set : (set inner : Set) → IsNormalised set inner → IsWithin (of_set set) → All IsWithinLimits inner.rows
small_set set inner e h = small_rows inner.rows (λ k n over. h (k, n, (inner.rows, e.rows, inl over)))

pub few_rows : (set inner : Set) → IsNormalised set inner → IsWithin (of_set set) → length inner.rows ≤ 20
few_rows set inner e h = elim (cases_lt 20 (length inner.rows)) [
  | inl l ↦ elim (cases_lt 1024 (greatest_coefficient inner.rows)) [
    | inl a ↦ absurd (h (quantity.Coefficient, greatest_coefficient inner.rows, (inner.rows, e.rows, inl (inl (refl, refl, a)))))
    | inr a ↦ elim (cases_lt (2 ^ 20) (greatest_constant inner.rows)) [
      | inl b ↦ absurd (h (quantity.Constant, greatest_constant inner.rows, (inner.rows, e.rows, inl (inr (refl, a, refl, b)))))
      | inr b ↦ absurd (h (quantity.Constraints, length inner.rows, (inner.rows, e.rows, inr (record { kind_is = refl; coefficients = a; constants = b; number = refl; over = l }))))
    ]
  ]
  | inr l ↦ l
]

pub few_set : (set inner : Set) → IsNormalised set inner → IsWithin (of_set set) → HasFewRows inner
few_set set inner e h = record {
  rows = inner.rows;
  normalised = subst (λ d. AreNormalised d inner.rows inner.rows) (sym e.dim) (normalised_again set.dim set.rows inner.rows e.rows);
  few = few_rows set inner e h;
}

-- ---- all sets and maps of a variable

pub record AllFit (vs : List Signature) (v : Variable) : Type 0 where
  pub maps : All (λ m. All IsWithinLimits m.rows) (composed_maps [] (right_side v))
  pub pieces : All (λ p. IsWithin (of_set (set_of v.domain.dim p))) (pieces_of vs v)
  pub bodies : All (λ p. All (λ set. IsWithin (of_set set)) (body_sets p.tree)) (pieces_of vs v)

all_fit : (vs : List Signature) (v : Variable) → All IsWithin (measured vs v) → AllFit vs v
all_fit vs v h =
    let maps = map of_map (composed_maps [] (right_side v)) in
    let pieces = map (λ (p : Part). of_set (record { dim = v.domain.dim; rows = p.rows })) (pieces_of vs v) in
    let sets = flat_map (λ (p : Part). body_sets p.tree) (pieces_of vs v) in
    let last = all_parts IsWithin (of_set v.domain ∷ maps ++ pieces) (map of_set sets) h in
    let first = all_parts IsWithin (of_set v.domain ∷ maps) pieces last.0 in
    record {
      maps = All-weaker (λ m. IsWithin (of_map m)) (λ m. All IsWithinLimits m.rows) small_map (composed_maps [] (right_side v)) (all_sources IsWithin of_map (composed_maps [] (right_side v)) (All-tail IsWithin (of_set v.domain) maps first.0));
      pieces = all_sources IsWithin (λ p. of_set (set_of v.domain.dim p)) (pieces_of vs v) first.1;
      bodies = all_spread_parts (λ set. IsWithin (of_set set)) (λ p. body_sets p.tree) (pieces_of vs v) (all_sources IsWithin of_set sets last.1);
    }

pub each_fits : (s : FlatSystem) → ((k : Quantity) (n : ℕ) → HasWideSets s k n → ⊥) → All (AllFit (signatures s)) s.variables
each_fits s h =
    let vs = signatures s in
    let fit = none_first (λ o. (k : Quantity) × (n : ℕ) × IsOver o k n) (flat_map (measured vs) s.variables)
    (λ o first. let here = first.here in h here.0 here.1 (record { what = o; first = first; over = here.2 })) in
    All-weaker (λ v. All IsWithin (measured vs v)) (AllFit vs) (all_fit vs) s.variables (all_spread_parts IsWithin (measured vs) s.variables fit)
