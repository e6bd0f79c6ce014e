-- Sets by their normalised rows: their rational points and rays, their boxes (Wilde's reports on Alpha; Schrijver,
-- Theory of Linear and Integer Programming; the limits are this project's).
use Rattle.std.specs.Prelude.{◌≡◌, ℕ, ◌<◌, ◌≤◌, ℤ, pos, ◌+ℤ◌, ◌-ℤ◌, ◌*ℤ◌, ◌≤ℤ◌, ◌⊎◌, List, [], ◌∷◌, length}
use Rattle.av_affine.specs.declared.form.Form.{Form}
use Rattle.av_affine.specs.Numbers.{AtMost}
use Rattle.av_poly.specs.Points.{Set, Has}
use Rattle.av_poly.specs.Normal.{AreNormalised}
use Rattle.av_poly.specs.Rational.{homogeneous, entry_of, HasRationalPoint, IsRationalRay, Spans}

-- the normalised rows have both a rational point and a rational ray
pub record IsUnbounded (set : Set) : Type 0 where
  pub rows : List Form
  pub normalised : AreNormalised set.dim set.rows rows
  pub point : HasRationalPoint set.dim (homogeneous rows)
  pub ray : List ℤ
  pub is_ray : IsRationalRay set.dim (homogeneous rows) ray

-- at most 20 normalised rows
pub record HasFewRows (set : Set) : Type 0 where
  pub rows : List Form
  pub normalised : AreNormalised set.dim set.rows rows
  pub few : length rows ≤ 20

-- how many whole points lie between bounds
abbrev pub box_size : List ℤ → List ℤ → ℤ
box_size [] high = pos 1
box_size (l ∷ low) [] = pos 1
box_size (l ∷ low) (h ∷ high) = (h -ℤ l +ℤ pos 1) *ℤ box_size low high

-- the box of a set with a rational point: of each index the least and the greatest whole number between its rational bounds
pub record IsBox (set : Set) (low high : List ℤ) : Type 0 where
  pub rows : List Form
  pub normalised : AreNormalised set.dim set.rows rows
  pub point : HasRationalPoint set.dim (homogeneous rows)
  pub lows : length low ≡ set.dim
  pub highs : length high ≡ set.dim
  pub spans : (index : ℕ) → index < set.dim → Spans set.dim (homogeneous rows) index (entry_of low index) (entry_of high index)

-- a box within the limits on coordinates and on points of a box
pub record HasSmallBox (set : Set) : Type 0 where
  pub low : List ℤ
  pub high : List ℤ
  pub is_box : IsBox set low high
  pub lows : AtMost 4095 low
  pub highs : AtMost 4095 high
  pub size : box_size low high ≤ℤ pos 65536

-- finite rational bounds within the limits, or no point
abbrev pub IsBounded : Set → Type 0
IsBounded set = HasSmallBox set ⊎ ((z : List ℤ) → Has set z → ⊥)
