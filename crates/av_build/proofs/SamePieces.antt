-- The same pieces of one node on two cells, without their computations and with them.
use Rattle.std.proofs.Common.{◌≡◌, ℕ, List, length, map, sym, ap, ◌∙◌, arith, Some}
use Rattle.std.specs.Prelude.{slice_get}
use Rattle.std.proofs.lemmas.List.{length-map}
use Rattle.av_base.proofs.Lists.{get_mapped}
use Rattle.av_space.specs.declared.array.Array.{Array as ArrayMade}
use Rattle.av_space.specs.declared.spots.Spot.{Spot as SpotMade}
use Rattle.av_space.proofs.ByPlace.{from_map}
use Rattle.av_build.specs.declared.spots.SpotPlan.{SpotPlan}
use Rattle.av_build.specs.inner.Lanes.{HaveSamePieces}
use Rattle.av_build.specs.inner.SpotPlans.{spot_by}

abbrev pub HaveSameSpots : List SpotMade → List SpotMade → Type 0
HaveSameSpots a b = (length a ≡ length b) × ((k : ℕ) (x y : SpotMade) → slice_get a k ≡ Some x → slice_get b k ≡ Some y → (x.node.0 ≡ y.node.0) × (x.number ≡ y.number))

module _ (w : ArrayMade) (a b : List SpotPlan) where
  pub same_spots : HaveSamePieces a b → HaveSameSpots (map (spot_by w) a) (map (spot_by w) b)
  same_spots same = (
    (let f = length-map a (spot_by w) in let g = length-map b (spot_by w) in let size = same.0 in omega (arith, f, g, size)),
    λ k x y is_x is_y. (
        let u = from_map (spot_by w) a k x is_x in
        let v = from_map (spot_by w) b k y is_y in
        let e = same.1 k u.0 v.0 u.1 v.1 in
        (ap (λ (s : SpotMade). s.node.0) (sym u.2) ∙ e.0 ∙ ap (λ (s : SpotMade). s.node.0) v.2, ap (λ (s : SpotMade). s.number) (sym u.2) ∙ e.1 ∙ ap (λ (s : SpotMade). s.number) v.2)),
  )

  pub same_plans : HaveSameSpots (map (spot_by w) a) (map (spot_by w) b) → HaveSamePieces a b
  same_plans same = (
    (let f = length-map a (spot_by w) in let g = length-map b (spot_by w) in let size = same.0 in omega (arith, f, g, size)),
    λ k x y is_x is_y. same.1 k (spot_by w x) (spot_by w y) (get_mapped (spot_by w) a k x is_x) (get_mapped (spot_by w) b k y is_y),
  )
