-- What forms, sets and maps of fixed size hold of an expression: few short terms, forms within the limits, and at most
-- four indices.
use Rattle.std.specs.Prelude.{◌≤◌, List, map, length, All}
use Rattle.av_affine.specs.Forms.{IsWithinLimits}
use Rattle.av_tree.specs.declared.domain.Constraint.{Constraint}
use Rattle.av_tree.specs.declared.domain.IndexExpr.{IndexExpr}
use Rattle.av_tree.specs.declared.domain.MapText.{MapText}
use Rattle.av_tree.specs.declared.expression.Access.{Access}
use Rattle.av_tree.specs.declared.expression.Access.TheVariants as access
use Rattle.av_tree.specs.Trees.{Text, Expression, Expressions, reference, constant, binary, choice, restriction, cases, dependence, reduction, none, more}
use Rattle.av_tree.specs.Points.{Sizes}
use Rattle.av_tree.specs.Rows.{compared}
use Rattle.av_names.specs.Forms.{Context, over, nameless, names_or, form_of, form_of_row}
use Rattle.av_names.specs.inner.ShortSums.{HasShortTerms, HasShortSides}

abbrev pub FitsForm : Sizes → List Text → IndexExpr → Type 0
FitsForm sizes names e = HasShortTerms e × IsWithinLimits (form_of sizes names e)

-- the rows of a comparison
abbrev pub FitsRows : Sizes → List Text → Constraint → Type 0
FitsRows sizes names c = HasShortSides c × All IsWithinLimits (map form_of_row (compared sizes names c.left c.relation c.right))

pub record FitsMap (sizes : Sizes) (m : MapText) : Type 0 where
  pub names : length m.names ≤ 4
  pub results : length m.results ≤ 4
  pub forms : All (FitsForm sizes m.names) m.results

abbrev pub FitsAccess : Sizes → Context → Access → Type 0
FitsAccess sizes c access.Here = Unit {0}
FitsAccess sizes c (access.Indices es) = (length es ≤ 4) × All (FitsForm sizes c.names) es
FitsAccess sizes c (access.Mapped m) = FitsMap sizes m

abbrev mutual
  -- each part of the expression, where it stands in this context
  pub FitsIn : Sizes → Context → Expression → Type 0
  FitsIn sizes c (reference name at place) = (c.indices ≤ 4) × FitsAccess sizes c at
  FitsIn sizes c (constant n at place) = Unit {0}
  FitsIn sizes c (binary s l r place) = FitsIn sizes c l × FitsIn sizes c r
  FitsIn sizes c (choice l compare r x y place) = FitsIn sizes c l × FitsIn sizes c r × FitsIn sizes c x × FitsIn sizes c y
  FitsIn sizes c (restriction d e place) = (c.indices ≤ 4) × All (FitsRows sizes (names_or c.names d.names)) d.constraints × FitsIn sizes c e
  FitsIn sizes c (cases es place) = FitAllIn sizes c es
  FitsIn sizes c (dependence m e place) = FitsMap sizes m × FitsIn sizes (nameless (length m.results)) e
  FitsIn sizes c (reduction o m e place) = FitsMap sizes m × FitsIn sizes (over m.names) e

  pub FitAllIn : Sizes → Context → Expressions → Type 0
  FitAllIn sizes c none = Unit {0}
  FitAllIn sizes c (more e es) = FitsIn sizes c e × FitAllIn sizes c es
