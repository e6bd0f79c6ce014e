-- The array of a blueprint is that of its timed system: what legality gives holds of it.
use Rattle.std.proofs.Common.{◌≡◌, ℕ, List, ap, subst, ◌∙◌}
use Rattle.av_tree.specs.Points.{Point}
use Rattle.av_space.specs.declared.array.Array.{Array as ArrayMade}
use Rattle.av_space.specs.declared.cells.Cell.{Cell}
use Rattle.av_space.specs.Coordinates.{Placing}
use Rattle.av_space.specs.Spots.{system_of, helpers_of, placings_of, ComputesIn, IsArray}
use Rattle.av_history.specs.Arranged.{IsArranged}
use Rattle.av_history.specs.Performing.{Array, ComputesOn}
use Rattle.av_build.specs.inner.Blueprints.{seen}
use Rattle.av_build.specs.inner.Built.{array_of}
use Rattle.av_build.proofs.Connected.{arranged_array, one_computation}

module _ (w : ArrayMade) (is : IsArray w) where
  abbrev with_cells : List Cell → Array
  with_cells cells = record { system = system_of w; helpers = helpers_of w; times = placings_of w; cells = cells; links = w.cells.now.links; ports = w.cells.now.inputs }

  pub seen_is : array_of w.timed.now w.cells.now is.whole.list.placings ≡ seen w
  seen_is = ap (λ (placings : List Placing). array_of w.timed.now w.cells.now placings) is.same_placings ∙ ap with_cells is.same_cells

  pub arranged_seen : IsArranged (seen w)
  arranged_seen = subst IsArranged seen_is (arranged_array w.timed.now w.cells.now is.legal is.whole.list)

  -- no cell computes two points in one cycle
  abbrev pub OneComputation : Array → Type 0
  OneComputation a = (p c m n : ℕ) (y z : Point) → ComputesOn a p c m y → ComputesOn a p c n z → (m ≡ n) × (y ≡ z)

  pub one_seen : (p c m n : ℕ) (y z : Point) → ComputesIn w p c m y → ComputesIn w p c n z → (m ≡ n) × (y ≡ z)
  one_seen = subst OneComputation seen_is (one_computation w.timed.now w.cells.now is.legal is.whole.list)
