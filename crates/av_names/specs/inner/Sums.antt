-- The numbers that rows and results of maps have, by a table of the sizes.
use Rattle.std.specs.Prelude.{ℕ, ℤ, ◌≤◌, unsigned_abs, List, ◌++◌, map, Option, bytes_eq}
use Rattle.std.specs.Map.{lookup}
use Rattle.av_tree.specs.declared.domain.Constraint.{Constraint}
use Rattle.av_tree.specs.declared.domain.IndexExpr.{IndexExpr}
use Rattle.av_tree.specs.Trees.{Text, System}
use Rattle.av_tree.specs.Points.{Sizes}
use Rattle.av_tree.specs.Rows.{or_zero}
use Rattle.av_names.specs.declared.measure.Measure.{Measure}
use Rattle.av_names.specs.declared.measure.Measure.TheVariants as measure
use Rattle.av_names.specs.declared.measure.Counted.{Counted as CountedMade}
use Rattle.av_names.specs.declared.written.Written.{Written as WrittenMade}
use Rattle.av_names.specs.Quantities.{Counted, index_coefficient, index_constant, row_coefficient, row_constant, great_coefficient, great_constant}
use Rattle.av_names.specs.Written.{Written}

-- the sizes of a table
abbrev pub sizes_in : List (Text × ℤ) → Sizes
sizes_in table name = lookup (bytes_eq name) table

abbrev pub HasSmallValues : Sizes → Type 0
HasSmallValues sizes = (name : Text) → unsigned_abs (or_zero (sizes name)) ≤ 1048576

-- ---- coefficients or constants

abbrev pub limit_of : Measure → ℕ
limit_of measure.Coefficient = 1024
limit_of measure.Constant = 1048576

abbrev pub of_index : Measure → Sizes → List Text → IndexExpr → Counted
of_index measure.Coefficient sizes names = index_coefficient names
of_index measure.Constant sizes names = index_constant sizes names

abbrev pub of_row : Measure → Sizes → List Text → Constraint → Counted
of_row measure.Coefficient sizes names = row_coefficient sizes names
of_row measure.Constant sizes names = row_constant sizes names

abbrev pub numbers_of : Measure → Sizes → Written → List Counted
numbers_of m sizes w = map (of_index m sizes w.names) w.indices ++ map (of_row m sizes w.names) w.constraints

-- the first of the system that is above its limit
abbrev pub great : Measure → System → Sizes → Option ℕ
great measure.Coefficient s sizes = great_coefficient s sizes
great measure.Constant s sizes = great_constant s sizes

-- ---- what definitions see

abbrev pub counted : CountedMade → Counted
counted c = record { number = c.number; place = c.place }

abbrev pub written : WrittenMade → Written
written w = record { names = w.names.now; indices = w.indices.now; constraints = w.constraints.now }
