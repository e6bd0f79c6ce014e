-- Points between bounds that begin with fixed entries, in order.
use Rattle.std.specs.Prelude.{◌≡◌, List, ◌++◌, AllPairs, Contains}
use Rattle.av_affine.specs.declared.form.Form.{Form}
use Rattle.av_poly.specs.Points.{Set}
use Rattle.av_poly.specs.Search.{CanFollow}
use Rattle.av_tree.specs.Points.{Point}
use Rattle.av_flat.specs.Order.{IsBefore}

-- the fixed entries with all that may follow them, ascending
pub record AreListed (rows : List Form) (fixed low high : Point) (points : List Point) : Type 0 where
  pub ascending : AllPairs IsBefore points
  pub each : (z : Point) → Contains points z → (rest : Point) × (z ≡ fixed ++ rest) × CanFollow rows fixed low high rest
  pub all : (rest : Point) → CanFollow rows fixed low high rest → Contains points (fixed ++ rest)

-- these have been put behind the old ones
pub record HasListed (set : Set) (fixed low high : Point) (old new : List Point) : Type 0 where
  pub added : List Point
  pub new_is : new ≡ old ++ added
  pub are : AreListed set.rows fixed low high added
