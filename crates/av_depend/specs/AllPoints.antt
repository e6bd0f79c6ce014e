-- All points of a set, in lexicographic order (textbook).
use Rattle.std.specs.Prelude.{List, All, AllPairs, Contains, IsTrue}
use Rattle.av_poly.specs.Points.{Set}
use Rattle.av_tree.specs.Points.{Point}
use Rattle.av_flat.specs.Points.{has}
use Rattle.av_flat.specs.Order.{IsBefore}

-- all points of the set, ascending
pub record AreAllPoints (set : Set) (points : List Point) : Type 0 where
  pub ascending : AllPairs IsBefore points
  pub each : All (λ z. IsTrue (has set z)) points
  pub all : (z : Point) → IsTrue (has set z) → Contains points z
