-- The computations of a piece on a cell, found again among all on the cell.
use Rattle.std.proofs.Common.{◌≡◌, ℕ, zero, suc, ◌<◌, ◌⊎◌, inl, inr, List, [], ◌∷◌, length, map, refl, sym, ap, ap₂, subst, ◌∙◌, arith, Some}
use Rattle.std.specs.Prelude.{All, AllPairs, Contains, filter, slice_get}
use Rattle.std.proofs.lemmas.List.Elements.{All-contains, All-head, All-tail}
use Rattle.av_base.proofs.Among.{among_at}
use Rattle.av_base.proofs.Lists.{pairs_first, pairs_rest, place_in, some_is, there_is}
use Rattle.av_poly.specs.Points.{Set}
use Rattle.av_flat.specs.Points.{has}
use Rattle.av_space.specs.declared.array.Array.{Array as ArrayMade}
use Rattle.av_space.specs.declared.layout.Slot.{Slot}
use Rattle.av_space.specs.declared.spots.Spot.{Spot as SpotMade}
use Rattle.av_space.specs.Spots.{cells_of, IsArray, IsSlotIn, AreSlotsIn, IsSpot}
use Rattle.av_space.proofs.Elements.{in_range}
use Rattle.av_space.proofs.OnSpots.{some_slots}
use Rattle.av_build.specs.inner.SpotPlans.{plan_of, slots_by, spot_by}

-- ---- two lists in ascending order with the same elements

in_parts : {X : Type 0} (y x : X) (ys : List X) → Contains (y ∷ ys) x → (y ≡ x) ⊎ Contains ys x
in_parts {X} y x ys c = let p = place_in (y ∷ ys) x c in by_place p.0 p.1
  where
    by_place : (k : ℕ) → slice_get (y ∷ ys) k ≡ Some x → (y ≡ x) ⊎ Contains ys x
    by_place zero e = inl (some_is y x e)
    by_place (suc k) e = inr (among_at ys k x e)

behind : {X : Type 0} (y x : X) (ys : List X) → Contains ys x → Contains (y ∷ ys) x
behind y x ys c = let p = place_in ys x c in among_at (y ∷ ys) (suc p.0) x p.1

same_by : {X : Type 0} (f : X → ℕ) (xs ys : List X) → AllPairs (λ (x y : X). f x < f y) xs → AllPairs (λ (x y : X). f x < f y) ys → ((x : X) → Contains xs x → Contains ys x) → ((x : X) → Contains ys x → Contains xs x) → xs ≡ ys
same_by f [] [] g h there back = refl
same_by f [] (y ∷ ys) g h there back = absurd (let p = place_in [] y (back y (among_at (y ∷ ys) 0 y refl)) in let e = p.1 in cc)
same_by f (x ∷ xs) [] g h there back = absurd (let p = place_in [] x (there x (among_at (x ∷ xs) 0 x refl)) in let e = p.1 in cc)
same_by {X} f (x ∷ xs) (y ∷ ys) g h there back =
    ap₂ (λ (z : X) (zs : List X). z ∷ zs) same (same_by f xs ys (pairs_rest R x xs g) (pairs_rest R y ys h) (rest x y xs ys g same there) (rest y x ys xs h (sym same) back))
  where
    R : X → X → Type 0
    R a b = f a < f b

    same : x ≡ y
    same = elim (in_parts y x ys (there x (among_at (x ∷ xs) 0 x refl))) [
      | inl e ↦ sym e
      | inr c ↦ elim (in_parts x y xs (back y (among_at (y ∷ ys) 0 y refl))) [
        | inl e ↦ e
        | inr d ↦ absurd (let l : f y < f x = pairs_first R y x ys h c in let m : f x < f y = pairs_first R x y xs g d in omega (arith, l, m))
      ]
    ]

    rest : (a b : X) (before after : List X) → AllPairs R (a ∷ before) → a ≡ b → ((z : X) → Contains (a ∷ before) z → Contains (b ∷ after) z) → (z : X) → Contains before z → Contains after z
    rest a b before after k e into z c = elim (in_parts b z after (into z (behind a z before c))) [
      | inl here ↦ absurd (let l : f a < f z = pairs_first R a z before k c in let n = ap f (e ∙ here) in omega (arith, l, n))
      | inr d ↦ d
    ]

-- ---- the computations of a piece

from : (w : ArrayMade) (p n : ℕ) (set : Set) (xs ys : List Slot) → AreSlotsIn w p n set xs → AreSlotsIn w p n set ys → (t : Slot) → Contains xs t → Contains ys t
from w p n set xs ys a b t c = let i = All-contains (IsSlotIn w p n set) xs t a.each c in b.all t.cycle t.point i.computes i.within

pub same_slots : (w : ArrayMade) (p n : ℕ) (set : Set) (xs ys : List Slot) → AreSlotsIn w p n set xs → AreSlotsIn w p n set ys → xs ≡ ys
same_slots w p n set xs ys a b = same_by (λ (t : Slot). t.cycle) xs ys a.order b.order (from w p n set xs ys a b) (from w p n set ys xs b a)

-- ---- a piece with them

found_again : (w : ArrayMade) → IsArray w → (at : SpotMade) → IsSpot w at → spot_by w (plan_of at) ≡ at
found_again w is at spot =
    let low = in_range (cells_of w) at.cell.0 spot.cell spot.is_cell in
    let many = is.layout.one_each in
    let all = there_is w.layout.slots at.cell.0 (omega (arith, low, many)) in
    let set = at.piece.now.domain in
    let passes = λ (t : Slot). has set t.point in
    let own = subst (λ (n : ℕ). AreSlotsIn w at.cell.0 n set (filter passes all.0)) spot.node (some_slots w at.cell.0 spot.cell set all.0 spot.is_cell (is.layout.are_slots at.cell.0 all.0 all.1)) in
    let same : filter passes (slots_by (slice_get w.layout.slots at.cell.0)) ≡ at.slots = ap (λ l. filter passes (slots_by l)) all.1 ∙ same_slots w at.cell.0 at.node.0 set (filter passes all.0) at.slots own spot.are_slots in
    ap (λ (l : List Slot). record { cell = at.cell; node = at.node; place = at.place; var = at.var; number = at.number; piece = at.piece; slots = l }) same

pub spots_again : (w : ArrayMade) → IsArray w → (p : ℕ) (spots : List SpotMade) → All (λ (at : SpotMade). (at.cell.0 ≡ p) × (0 < length at.slots) × IsSpot w at) spots → map (spot_by w) (map plan_of spots) ≡ spots
spots_again w is p [] each = refl
spots_again w is p (at ∷ spots) each =
    let P = λ (at : SpotMade). (at.cell.0 ≡ p) × (0 < length at.slots) × IsSpot w at in
    ap₂ (λ (x : SpotMade) (xs : List SpotMade). x ∷ xs) (found_again w is at (All-head P at spots each).2) (spots_again w is p spots (All-tail P at spots each))
