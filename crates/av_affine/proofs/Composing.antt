-- The composition of affine maps, and the sizes of its entries.
use Rattle.std.proofs.Common.{◌≡◌, ℕ, zero, suc, ◌≤◌, ◌^◌, List, [], ◌∷◌, length, get_or, drop, map, max, fold, refl, arith, ℤ, pos, ◌+ℤ◌, ◌*ℤ◌, nat_lt, if◌then◌else◌}
use Rattle.std.specs.Int.RustNames.{unsigned_abs}
use Rattle.std.specs.List.{All, AllByRecursion}
use Rattle.std.proofs.lemmas.Int.{ints}
use Rattle.std.proofs.lemmas.List.Elements.{All-map, All-weaker, All-from_recursion}
use Rattle.av_affine.specs.declared.form.Form.{Form}
use Rattle.av_affine.specs.Numbers.{dot, AtMost, greatest, four}
use Rattle.av_affine.specs.Forms.{value_at, IsWithinLimits}
use Rattle.av_affine.specs.Maps.{image, coefficients_of, constants_of, through, greatest_coefficient, greatest_constant}
use Rattle.av_affine.proofs.Ring.{ring, cube}
use Rattle.av_affine.proofs.Dots.{entry_most}

-- ---- the sizes of entries

pub coefficients_most : (rows : List Form) (index : ℕ) → All IsWithinLimits rows → AtMost (2 ^ 20) (coefficients_of index rows)
coefficients_most rows index h =
    All-map (λ x. unsigned_abs x ≤ 2 ^ 20) (λ f. get_or f.coef index (pos 0)) rows (All-weaker IsWithinLimits (λ f. unsigned_abs (get_or f.coef index (pos 0)) ≤ 2 ^ 20) (λ f w. let most = entry_most 1024 f.coef index w.coefficients in omega (arith, most)) rows h)

pub constants_most : (rows : List Form) → All IsWithinLimits rows → AtMost (2 ^ 20) (constants_of rows)
constants_most rows h = All-map (λ x. unsigned_abs x ≤ 2 ^ 20) (λ f. f.constant) rows (All-weaker IsWithinLimits (λ f. unsigned_abs f.constant ≤ 2 ^ 20) (λ f w. w.constant) rows h)

-- ---- what the composition does to a point

-- a sum of products at what stands from i on
dot_from : (c : List ℤ) (i : ℕ) (y : ℤ) (ys : List ℤ) → dot (drop i c) (y ∷ ys) ≡ get_or c i (pos 0) *ℤ y +ℤ dot (drop (suc i) c) ys
dot_from [] zero y ys = omega (arith, ints)
dot_from [] (suc i) y ys = omega (arith, ints)
dot_from (x ∷ c) zero y ys = refl
dot_from (x ∷ c) (suc i) y ys = dot_from c i y ys

-- the linear part of what the rows give, from the index i on
abbrev linear : List ℤ → List Form → ℕ → List ℤ → ℤ
linear fs gs i z = dot fs (map (λ g. dot (drop i g.coef) z) gs)

-- the constants apart
constants_apart : (fs : List ℤ) (gs : List Form) (z : List ℤ) → dot fs (image gs z) ≡ linear fs gs 0 z +ℤ dot fs (constants_of gs)
constants_apart [] gs z = omega (arith, ints)
constants_apart (f ∷ fs) [] z = omega (arith, ints)
constants_apart (f ∷ fs) (g ∷ gs) z = rw (constants_apart fs gs z) (simp ring (omega (arith, ints, cube)))

pub dot_none : (xs : List ℤ) → dot xs [] ≡ pos 0
dot_none [] = refl
dot_none (x ∷ xs) = refl

linear_none : (fs : List ℤ) (gs : List Form) (i : ℕ) → linear fs gs i [] ≡ pos 0
linear_none [] gs i = refl
linear_none (f ∷ fs) [] i = refl
linear_none (f ∷ fs) (g ∷ gs) i = rw (dot_none (drop i g.coef), linear_none fs gs i) (omega (arith, ints))

-- the first entry apart
linear_first : (fs : List ℤ) (gs : List Form) (i : ℕ) (y : ℤ) (ys : List ℤ) → linear fs gs i (y ∷ ys) ≡ dot fs (coefficients_of i gs) *ℤ y +ℤ linear fs gs (suc i) ys
linear_first [] gs i y ys = omega (arith, ints)
linear_first (f ∷ fs) [] i y ys = omega (arith, ints)
linear_first (f ∷ fs) (g ∷ gs) i y ys = rw (linear_first fs gs i y ys, dot_from g.coef i y ys) (simp ring (omega (arith, ints, cube)))

-- the linear part by the coefficients of the composition
abbrev combined : List ℤ → List Form → ℕ → List ℤ
combined fs gs n = four (λ index. if nat_lt index n then dot fs (coefficients_of index gs) else pos 0)

linear_combined : (fs : List ℤ) (gs : List Form) (z : List ℤ) → length z ≤ 4 → linear fs gs 0 z ≡ dot (combined fs gs (length z)) z
linear_combined fs gs [] h = linear_none fs gs 0
linear_combined fs gs (a ∷ []) h = rw (linear_first fs gs 0 a [], linear_none fs gs 1) refl
linear_combined fs gs (a ∷ b ∷ []) h = rw (linear_first fs gs 0 a (b ∷ []), linear_first fs gs 1 b [], linear_none fs gs 2) refl
linear_combined fs gs (a ∷ b ∷ c ∷ []) h = rw (linear_first fs gs 0 a (b ∷ c ∷ []), linear_first fs gs 1 b (c ∷ []), linear_first fs gs 2 c [], linear_none fs gs 3) refl
linear_combined fs gs (a ∷ b ∷ c ∷ d ∷ []) h = rw (linear_first fs gs 0 a (b ∷ c ∷ d ∷ []), linear_first fs gs 1 b (c ∷ d ∷ []), linear_first fs gs 2 c (d ∷ []), linear_first fs gs 3 d [], linear_none fs gs 4) refl
linear_combined fs gs (a ∷ b ∷ c ∷ d ∷ e ∷ z) h = absurd (omega arith)

-- a form after the rows has, at each point, the form's value at their image
pub value_through : (f : Form) (gs : List Form) (z : List ℤ) → length z ≤ 4 → value_at (through (length z) gs f) z ≡ value_at f (image gs z)
value_through f gs z h = rw (constants_apart f.coef gs z, linear_combined f.coef gs z h) (omega (arith, ints))

pub image_through : (fs gs : List Form) (z : List ℤ) → length z ≤ 4 → image (map (through (length z) gs) fs) z ≡ image fs (image gs z)
image_through [] gs z h = refl
image_through (f ∷ fs) gs z h = rw (value_through f gs z h, image_through fs gs z h) refl

-- ---- the limits

fold_max : {X : Type 0} (f : X → ℕ) (a : ℕ) (xs : List X) (b : ℕ) → fold max a (map f xs) ≤ b → (a ≤ b) × AllByRecursion (λ x. f x ≤ b) xs
fold_max f a [] b h = (h, tt)
fold_max f a (x ∷ xs) b h = let r = fold_max f (max a (f x)) xs b h in (omega (arith, r.0), (omega (arith, r.0), r.1))

pub within_limits : (rows : List Form) → greatest_coefficient rows ≤ 1024 → greatest_constant rows ≤ 2 ^ 20 → All IsWithinLimits rows
within_limits rows h k = All-from_recursion IsWithinLimits rows (go rows (fold_max (λ f. greatest f.coef) 0 rows 1024 h).1 (fold_max (λ f. unsigned_abs f.constant) 0 rows (2 ^ 20) k).1)
  where
    go : (rows : List Form) → AllByRecursion (λ f. greatest f.coef ≤ 1024) rows → AllByRecursion (λ f. unsigned_abs f.constant ≤ 2 ^ 20) rows → AllByRecursion IsWithinLimits rows
    go [] h k = tt
    go (f ∷ rows) h k = (record { coefficients = All-from_recursion (λ x. unsigned_abs x ≤ 1024) f.coef (fold_max unsigned_abs 0 f.coef 1024 h.0).1; constant = k.0 }, go rows h.1 k.1)
