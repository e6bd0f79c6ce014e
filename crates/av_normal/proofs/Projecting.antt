-- The map of a reduction sends the points over a point to that point.
use Rattle.std.proofs.Common.{◌≡◌, ℕ, zero, suc, ◌+◌, ◌<◌, Bool, true, false, if◌then◌else◌, nat_eq, ℤ, pos, ◌+ℤ◌, ◌*ℤ◌, List, [], ◌∷◌, length, map, take, get_or, refl, sym, ap, ap₂, subst, ◌∙◌, arith, All, AllPairs}
use Rattle.std.specs.List.{range_with_len}
use Rattle.std.proofs.lemmas.Int.{ints}
use Rattle.std.proofs.lemmas.List.{get_or-take}
use Rattle.std.proofs.lemmas.List.FromFn.{get_or-map-range_with_len}
use Rattle.std.proofs.lemmas.List.Elements.{All-head, All-tail}
use Rattle.av_affine.specs.declared.form.Form.{Form}
use Rattle.av_affine.specs.declared.map.Map.{Map}
use Rattle.av_affine.specs.Numbers.{dot}
use Rattle.av_affine.specs.Forms.{value_at}
use Rattle.av_affine.specs.Maps.{image}
use Rattle.av_tree.specs.Points.{Point, is_one}
use Rattle.av_flat.specs.Points.{is_index, entry_over, point_over}
use Rattle.av_flat.specs.WellFormed.{IsIndex, IsProjection}
use Rattle.av_flat.proofs.Sets.{equal, is_equal}
use Rattle.av_flat.proofs.PieceValues.{over_length}

-- ---- one index

other : (a b : ℕ) → (a ≡ b → ⊥) → nat_eq a b ≡ false
other a b n = go (nat_eq a b) refl
  where
    go : (t : Bool) → nat_eq a b ≡ t → nat_eq a b ≡ false
    go true e = absurd (n (equal a b e))
    go false e = e

-- 1 at one place, and 0 elsewhere
abbrev pub unit : ℕ → ℕ → ℤ
unit k j = if nat_eq j k then pos 1 else pos 0

pub unit_here : (k j : ℕ) → j ≡ k → unit k j ≡ pos 1
unit_here k j e = ap (λ t. if t then pos 1 else pos 0) (is_equal j k e)

pub unit_elsewhere : (k j : ℕ) → (j ≡ k → ⊥) → unit k j ≡ pos 0
unit_elsewhere k j n = ap (λ t. if t then pos 1 else pos 0) (other j k n)

pub dot_take : (n : ℕ) (xs y : List ℤ) → length y ≡ n → dot (take n xs) y ≡ dot xs y
dot_take zero [] y h = refl
dot_take (suc n) [] y h = refl
dot_take zero (x ∷ xs) [] h = refl
dot_take zero (x ∷ xs) (k ∷ y) h = absurd (omega (arith, h))
dot_take (suc n) (x ∷ xs) [] h = refl
dot_take (suc n) (x ∷ xs) (k ∷ y) h = ap (λ d. x *ℤ k +ℤ d) (dot_take n xs y (omega (arith, h)))

-- past its place the entries of a unit row are 0
units_none : (k start n : ℕ) (y : List ℤ) → k < start → dot (map (unit k) (range_with_len start n)) y ≡ pos 0
units_none k start zero y h = refl
units_none k start (suc n) [] h = refl
units_none k start (suc n) (x ∷ y) h =
    let e = unit_elsewhere k start (λ q. omega (arith, q, h)) in
    let r = units_none k (start + 1) n y (omega (arith, h)) in
    rw (e, r) (omega (arith, ints))

units_dot : (k start n i : ℕ) (y : List ℤ) → length y ≡ n → start + i ≡ k → dot (map (unit k) (range_with_len start n)) y ≡ get_or y i (pos 0)
units_dot k start zero i [] h e = nothing i
  where
    nothing : (i : ℕ) → pos 0 ≡ get_or [] i (pos 0)
    nothing zero = refl
    nothing (suc i) = refl
units_dot k start zero i (x ∷ y) h e = absurd (omega (arith, h))
units_dot k start (suc n) i [] h e = absurd (omega (arith, h))
units_dot k start (suc n) zero (x ∷ y) h e =
    let here = unit_here k start (omega (arith, e)) in
    let rest = units_none k (start + 1) n y (omega (arith, e)) in
    rw (here, rest) (omega (arith, ints))
units_dot k start (suc n) (suc i) (x ∷ y) h e =
    let here = unit_elsewhere k start (λ q. omega (arith, q, e)) in
    let rest = units_dot k (start + 1) n i y (omega (arith, h)) (omega (arith, e)) in
    rw (here, rest) (omega (arith, ints))

pub index_value : (n : ℕ) (f : Form) (place : ℕ) (y : Point) → IsIndex n f place → length y ≡ n → value_at f y ≡ get_or y place (pos 0)
index_value n f place y is e =
    let d : dot f.coef y ≡ get_or y place (pos 0) = sym (dot_take n f.coef y e) ∙ ap (λ xs. dot xs y) is.coefficients ∙ units_dot place 0 n place y e (omega arith) in
    let c = is.constant in
    omega (arith, ints, d, c)

pub one_is : (t : Bool) → is_one (if t then pos 1 else pos 0) ≡ t
one_is true = refl
one_is false = refl

pub coefficient_at : (n : ℕ) (f : Form) (p place : ℕ) → IsIndex n f p → place < n → get_or f.coef place (pos 0) ≡ unit p place
coefficient_at n f p place is l =
    sym (get_or-take n f.coef place (pos 0) l) ∙ ap (λ xs. get_or xs place (pos 0)) is.coefficients
    ∙ get_or-map-range_with_len (unit p) 0 n place place (pos 0) l (omega arith)

pub index_at : (n : ℕ) (f : Form) (p place : ℕ) → IsIndex n f p → place < n → is_index place f ≡ nat_eq place p
index_at n f p place is l = ap is_one (coefficient_at n f p place is l) ∙ one_is (nat_eq place p)

-- ---- all but one, each once

abbrev pub AreOnce : ℕ → List Form → Type 0
AreOnce n forms = AllPairs (λ f g. (place : ℕ) → IsIndex n f place → IsIndex n g place → ⊥) forms

abbrev pub AreIndices : ℕ → List Form → Type 0
AreIndices n forms = All (λ f. (place : ℕ) × IsIndex n f place) forms

image_is : (n : ℕ) (entry : ℕ → ℤ) (k : ℤ) (y : Point) → length y ≡ n → ((place : ℕ) → place < n → get_or y place (pos 0) ≡ entry place)
    → (forms : List Form) (z : Point) → length forms ≡ length z → AreIndices n forms → AreOnce n forms
    → All (λ f. (place : ℕ) → IsIndex n f place → entry place ≡ entry_over forms z k place) forms → image forms y ≡ z
image_is n entry k y size at [] [] e each once h = refl
image_is n entry k y size at [] (x ∷ z) e each once h = absurd (omega (arith, e))
image_is n entry k y size at (f ∷ forms) [] e each once h = absurd (omega (arith, e))
image_is n entry k y size at (f ∷ forms) (x ∷ z) e each once h =
    let (p, is) = All-head (λ g. (place : ℕ) × IsIndex n g place) f forms each in
    ap₂ (λ a b. a ∷ b)
    (index_value n f p y is size ∙ at p is.within ∙ All-head (λ g. (place : ℕ) → IsIndex n g place → entry place ≡ entry_over (f ∷ forms) (x ∷ z) k place) f forms h p is
    ∙ ap (λ t. if t then x else entry_over forms z k p) (index_at n f p p is is.within ∙ is_equal p p refl))
    (image_is n entry k y size at forms z (omega (arith, e)) (All-tail (λ g. (place : ℕ) × IsIndex n g place) f forms each) (λ i j d l m. once (suc i) (suc j) d (omega (arith, l)) (omega (arith, m)))
    (λ i d l place there.
    h (suc i) d (omega (arith, l)) place there
    ∙ ap (λ t. if t then x else entry_over forms z k place)
    (index_at n f p place is there.within ∙ other place p (λ q. once 0 (suc i) d (omega arith) (omega (arith, l)) place (let P : ℕ → Type 0 = λ a. IsIndex n f a in subst P (sym q) is) there))))

pub image_over : (m : Map) (z : Point) (k : ℤ) → IsProjection m → length m.rows ≡ length z → image m.rows (point_over m z k) ≡ z
image_over m z k is e =
    image_is m.from (entry_over m.rows z k) k (point_over m z k) (over_length m z k)
    (λ place l. get_or-map-range_with_len (entry_over m.rows z k) 0 m.from place place (pos 0) l (omega arith))
    m.rows z e is.indices is.once (λ i d l place at. refl)
