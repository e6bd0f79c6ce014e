-- Space coordinates by a unimodular completion of the linear part (textbook: Rao, Kailath 1988; the completion is this project's).
use Rattle.std.specs.Prelude.{◌≡◌, ℤ, pos, ◌*ℤ◌, ◌<ℤ◌, List, [], ◌∷◌, map, All}
use Rattle.av_affine.specs.Numbers.{dot, IsGcdOf}
use Rattle.av_affine.specs.Completion.{IsCompletion}
use Rattle.av_tree.specs.Points.{Point}
use Rattle.av_flat.specs.declared.timed.Time.{Time}

-- the rows below the primitive vector of a linear part
pub record AreSpaceRows (linear : List ℤ) (rows : List (List ℤ)) : Type 0 where
  pub vector : List ℤ
  pub gcd : ℤ
  pub positive : pos 0 <ℤ gcd
  pub divided : linear ≡ map (λ x. gcd *ℤ x) vector
  pub primitive : IsGcdOf vector 1
  pub rule : IsCompletion vector (vector ∷ rows)

-- a list for each row, of the row times the point
abbrev pub along : List (List ℤ) → Point → List ℤ
along rows z = map (λ row. dot row z) rows

-- a node's time, and the rows by which the coordinates of its points are taken
pub record Placing : Type 0 where
  pub time : Time
  pub rows : List (List ℤ)

-- a node without indices has no row
pub data IsPlacing : Placing → Type 0 where
  point : {time : Time} → time.linear ≡ [] → IsPlacing (record { time = time; rows = [] })
  space : {time : Time} (rows : List (List ℤ)) → AreSpaceRows time.linear rows → IsPlacing (record { time = time; rows = rows })

-- those of all nodes
pub record ArePlacings (times : List Time) (placings : List Placing) : Type 0 where
  pub times_are : map (λ p. p.time) placings ≡ times
  pub each : All IsPlacing placings
