-- The quantities of pieces, sets and boxes that limits are on, and which of them is the first above its limit (the
-- limits and their order are this project's).
use Rattle.std.specs.Prelude.{◌≡◌, ℕ, ◌+◌, ◌-◌, ◌*◌, ◌^◌, ◌<◌, ◌≤◌, ℤ, pos, ◌⊎◌, min, length, All, List, [], ◌∷◌, ◌++◌, map, filter}
use Rattle.std.specs.List.{flat_map}
use Rattle.av_affine.specs.declared.form.Form.{Form}
use Rattle.av_affine.specs.declared.map.Map.{Map}
use Rattle.av_affine.specs.Numbers.{greatest}
use Rattle.av_affine.specs.Maps.{composition, greatest_coefficient, greatest_constant}
use Rattle.av_poly.specs.Points.{Set}
use Rattle.av_poly.specs.Normal.{AreNormalised}
use Rattle.av_tree.specs.Trees.{Text}
use Rattle.av_flat.specs.declared.quantity.Quantity.{Quantity}
use Rattle.av_flat.specs.declared.quantity.Quantity.TheVariants as quantity
use Rattle.av_flat.specs.Trees.{Tree, Trees, Variable, FlatSystem, reference, constant, binary, choice, restriction, cases, dependence, reduction, pick, none, more, right_side}
use Rattle.av_flat.specs.Signatures.{Signature, signatures, is_computed}
use Rattle.av_flat.specs.Sets.{IsUnbounded, IsBox, box_size}
use Rattle.av_flat.specs.Pieces.{pieces_of}

-- x is the first of the list of which P holds
pub record IsFirst {X : Type 0} (P : X → Type 0) (xs : List X) (x : X) : Type 0 where
  pub before : List X
  pub after : List X
  pub is : xs ≡ before ++ x ∷ after
  pub not_before : All (λ y. P y → ⊥) before
  pub here : P x

-- ---- pieces

abbrev mutual
  -- how many pieces a tree has before any is dropped
  pub piece_count : Tree → ℕ
  piece_count (reference place m) = 1
  piece_count (constant n) = 1
  piece_count (binary s l r) = piece_count l * piece_count r
  piece_count (choice l c r x y) = piece_count l * piece_count r * piece_count x * piece_count y
  piece_count (restriction d t) = piece_count t
  piece_count (cases ts) = piece_count_of_all ts
  piece_count (dependence m t) = piece_count t
  piece_count (reduction o m t set) = 1
  piece_count (pick place choices n) = 1

  pub piece_count_of_all : Trees → ℕ
  piece_count_of_all none = 0
  piece_count_of_all (more t ts) = piece_count t + piece_count_of_all ts

-- the first equation of more than 256 pieces has n; all numbers that do not fit 128 bits count as the greatest that does
pub record HasManyPieces (s : FlatSystem) (n : ℕ) : Type 0 where
  pub variable : Variable
  pub first : IsFirst (λ v. 256 < piece_count (right_side v)) (filter (λ v. is_computed v.kind) s.variables) variable
  pub number : n ≡ min (piece_count (right_side variable)) (2 ^ 128 - 1)

-- ---- rows of sets and maps

-- what is measured: a set, by its normalised rows, or a map that was composed
pub data Measured : Type 0 where
  of_set : Set → Measured
  of_map : Map → Measured

-- the compositions on the way outwards, where the innermost dependence comes first
abbrev pub steps : Map → List Map → List Map
steps m [] = []
steps m (d ∷ ds) = composition m d ∷ steps (composition m d) ds

-- the rows of a restriction start with the innermost dependence
abbrev pub steps_under : List Map → List Map
steps_under [] = []
steps_under (d ∷ ds) = steps d ds

abbrev mutual
  -- the composed maps of references and restrictions, in the order of the text
  pub composed_maps : List Map → Tree → List Map
  composed_maps ds (reference place m) = steps m ds
  composed_maps ds (constant n) = []
  composed_maps ds (binary s l r) = composed_maps ds l ++ composed_maps ds r
  composed_maps ds (choice l c r x y) = composed_maps ds l ++ composed_maps ds r ++ composed_maps ds x ++ composed_maps ds y
  composed_maps ds (restriction d t) = steps_under ds ++ composed_maps ds t
  composed_maps ds (cases ts) = composed_maps_of_all ds ts
  composed_maps ds (dependence m t) = composed_maps (m ∷ ds) t
  composed_maps ds (reduction o m t set) = composed_maps [] t
  composed_maps ds (pick place choices n) = []

  pub composed_maps_of_all : List Map → Trees → List Map
  composed_maps_of_all ds none = []
  composed_maps_of_all ds (more t ts) = composed_maps ds t ++ composed_maps_of_all ds ts

-- the sets of the reductions of a piece, outer before inner
abbrev pub body_sets : Tree → List Set
body_sets (binary s l r) = body_sets l ++ body_sets r
body_sets (choice l c r x y) = body_sets l ++ body_sets r ++ body_sets x ++ body_sets y
body_sets (reduction o m t set) = set ∷ body_sets t
body_sets _ = []

-- of one variable: its domain, its composed maps, its pieces, and the bodies of each piece
abbrev pub measured : List Signature → Variable → List Measured
measured vs v =
    of_set v.domain ∷ map of_map (composed_maps [] (right_side v))
    ++ map (λ p. of_set (record { dim = v.domain.dim; rows = p.rows })) (pieces_of vs v)
    ++ map of_set (flat_map (λ p. body_sets p.tree) (pieces_of vs v))

-- a coefficient or a constant is above its limit, coefficients first
abbrev pub IsOverNumbers : List Form → Quantity → ℕ → Type 0
IsOverNumbers rows kind n =
    ((kind ≡ quantity.Coefficient) × (n ≡ greatest_coefficient rows) × (1024 < n))
    ⊎ ((kind ≡ quantity.Constant) × (greatest_coefficient rows ≤ 1024) × (n ≡ greatest_constant rows) × (2 ^ 20 < n))

-- more than 20 rows, whose numbers are within their limits
pub record IsOverRows (rows : List Form) (kind : Quantity) (n : ℕ) : Type 0 where
  pub kind_is : kind ≡ quantity.Constraints
  pub coefficients : greatest_coefficient rows ≤ 1024
  pub constants : greatest_constant rows ≤ 2 ^ 20
  pub number : n ≡ length rows
  pub over : 20 < n

abbrev pub IsOver : Measured → Quantity → ℕ → Type 0
IsOver (of_set set) kind n = (rows : List Form) × AreNormalised set.dim set.rows rows × (IsOverNumbers rows kind n ⊎ IsOverRows rows kind n)
IsOver (of_map m) kind n = IsOverNumbers m.rows kind n

-- the first set or map above a limit has n of this kind
pub record HasWideSets (s : FlatSystem) (kind : Quantity) (n : ℕ) : Type 0 where
  pub what : Measured
  pub first : IsFirst (λ o. (k : Quantity) × (m : ℕ) × IsOver o k m) (flat_map (measured (signatures s)) s.variables) what
  pub over : IsOver what kind n

-- ---- declared domains

-- the first variable whose domain has no end has this name
pub record HasUnbounded (s : FlatSystem) (name : Text) : Type 0 where
  pub variable : Variable
  pub first : IsFirst (λ v. IsUnbounded v.domain) s.variables variable
  pub name_is : name ≡ variable.name

-- a coordinate or the number of points of the set's box is above its limit, coordinates first
pub record IsOverBox (set : Set) (kind : Quantity) (n : ℕ) : Type 0 where
  pub low : List ℤ
  pub high : List ℤ
  pub is_box : IsBox set low high
  pub over :
      ((kind ≡ quantity.Coordinate) × (n ≡ greatest (low ++ high)) × (4095 < n))
      ⊎ ((kind ≡ quantity.BoxSize) × (greatest (low ++ high) ≤ 4095) × (pos n ≡ box_size low high) × (65536 < n))

-- the first variable whose domain has such a box
pub record HasLargeBox (s : FlatSystem) (kind : Quantity) (n : ℕ) : Type 0 where
  pub variable : Variable
  pub first : IsFirst (λ v. (k : Quantity) × (m : ℕ) × IsOverBox v.domain k m) s.variables variable
  pub over : IsOverBox variable.domain kind n
