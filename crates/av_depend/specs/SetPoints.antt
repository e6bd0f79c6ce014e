-- Points as sets are asked for them.
use Rattle.std.specs.Prelude.{◌≡◌, ◌≤◌, length}
use Rattle.av_affine.specs.Numbers.{AtMost}
use Rattle.av_poly.specs.Points.{Set}
use Rattle.av_tree.specs.Points.{Point}

-- one entry for each index of the set, at most four, within the limit on coordinates
pub record IsPointOf (set : Set) (z : Point) : Type 0 where
  pub size : length z ≡ set.dim
  pub few : length z ≤ 4
  pub entries : AtMost 4095 z
