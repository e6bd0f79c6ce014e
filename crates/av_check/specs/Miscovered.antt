-- Where a system is not proper: points that have no word or too many (Wilde's reports on Alpha, where the domains of an
-- expression's parts are compared; that the first variable and its least point are told is this project's).
use Rattle.std.specs.Prelude.{◌≢◌, IsTrue, List}
use Rattle.av_poly.specs.Search.{IsNotAfter}
use Rattle.av_tree.specs.Points.{Point}
use Rattle.av_flat.specs.Trees.{Variable, FlatSystem, right_side}
use Rattle.av_flat.specs.Points.{has}
use Rattle.av_flat.specs.Signatures.{Signature, signatures, is_computed}
use Rattle.av_flat.specs.Counts.{count}
use Rattle.av_flat.specs.Quantities.{IsFirst}

-- a declared point of an output or a local at which its equation has not just one word
pub record IsMiscoveredAt (vs : List Signature) (v : Variable) (z : Point) : Type 0 where
  pub computed : IsTrue (is_computed v.kind)
  pub declared : IsTrue (has v.domain z)
  pub count : count vs (right_side v) z ≢ 1

-- the least such point in lexicographic order
pub record IsLeastMiscovered (vs : List Signature) (v : Variable) (z : Point) : Type 0 where
  pub wrong : IsMiscoveredAt vs v z
  pub least : (y : Point) → IsMiscoveredAt vs v y → IsNotAfter z y

-- the first variable with such a point, and its least one
pub record IsFirstMiscovered (s : FlatSystem) (v : Variable) (z : Point) : Type 0 where
  pub first : IsFirst (λ w. (y : Point) × IsMiscoveredAt (signatures s) w y) s.variables v
  pub least : IsLeastMiscovered (signatures s) v z
