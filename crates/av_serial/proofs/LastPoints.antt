-- Which points a chain and its holder read.
use Rattle.std.proofs.Common.{◌≡◌, ◌≤◌, ℤ, pos, ◌+ℤ◌, ◌-ℤ◌, Bool, true, false, if◌then◌else◌, IsTrue, Some, None, [], ◌∷◌, length, refl, sym, ap, ◌∙◌, arith}
use Rattle.std.proofs.lemmas.Int.{ints}
use Rattle.std.proofs.lemmas.List.FromFn.{length-map-range_with_len}
use Rattle.std.proofs.lemmas.List.Elements.{recursion_from_All}
use Rattle.av_affine.specs.declared.map.Map.{Map}
use Rattle.av_affine.specs.Maps.{image}
use Rattle.av_poly.specs.Points.{Set, Has, Holds}
use Rattle.av_tree.specs.Points.{Point}
use Rattle.av_flat.specs.Points.{has, entry_over, point_over}
use Rattle.av_flat.specs.Values.{picked}
use Rattle.av_serial.specs.Lines.{IsUnit, choice_before, choices_of, map_before, IsLined, IsLastOver}
use Rattle.av_serial.proofs.Choosing.{chosen, unchosen}
use Rattle.av_serial.proofs.Preceding.{image_before, has_before}

module _ (m : Map) (set : Set) (z : Point) (lined : IsLined m set) (size : length z ≡ length m.rows) where
  short : length z ≤ 4
  short = let a = lined.projection.drops_one in let b = lined.few in omega (arith, a, b, size)

  has_there : (k : ℤ) → Holds set.rows (point_over m z k) → Has set (point_over m z k)
  has_there k h = record { dimension = length-map-range_with_len (entry_over m.rows z k) 0 m.from ∙ sym lined.dimension; holds = h }

  pub last_point : (k : ℤ) → IsLastOver m set z k → picked (choices_of m set.rows) z ≡ Some (point_over m z k)
  last_point k h =
      chosen m z (sym size) short k [] set.rows (recursion_from_All (IsUnit m) set.rows lined.units) tt h.here.holds
      (λ next. let l = h.top (k +ℤ pos 1) (has_there (k +ℤ pos 1) next) in omega (arith, ints, l))

  pub no_point : ((k : ℤ) → Has set (point_over m z k) → ⊥) → picked (choices_of m set.rows) z ≡ None
  no_point none = unchosen m z (sym size) short [] set.rows (λ k a h. none k (has_there k h))

  pub point_before : (k : ℤ) → picked (choice_before m set ∷ []) (point_over m z k) ≡ (if has set (point_over m z (k -ℤ pos 1)) then Some (point_over m z (k -ℤ pos 1)) else None)
  point_before k =
      let both = has_before m z k (sym size) lined.few set lined.dimension in
      go (has (choice_before m set).set (point_over m z k)) (has set (point_over m z (k -ℤ pos 1))) both.0 both.1
    where
      go : (a b : Bool) → (IsTrue a → IsTrue b) → (IsTrue b → IsTrue a)
          → (if a then Some (image (map_before m).rows (point_over m z k)) else None) ≡ (if b then Some (point_over m z (k -ℤ pos 1)) else None)
      go true true f g = ap (λ (y : Point). Some y) (image_before m z k (sym size) lined.few)
      go true false f g = absurd (let h = f refl in cc)
      go false true f g = absurd (let h = g refl in cc)
      go false false f g = refl
