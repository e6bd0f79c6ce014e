-- The quantities of a text, and the first of each kind that is above its limit.
use Rattle.std.specs.Prelude.{ℕ, ℤ, max, nat_lt, unsigned_abs, List, [], ◌∷◌, ◌++◌, map, length, Option, Some, None, option_map, if◌then◌else◌}
use Rattle.std.specs.List.{flat_map, filter_map}
use Rattle.av_base.specs.declared.place.Place.{Place}
use Rattle.av_tree.specs.declared.domain.Constraint.{Constraint}
use Rattle.av_tree.specs.declared.domain.IndexExpr.{IndexExpr}
use Rattle.av_tree.specs.declared.domain.MapText.{MapText}
use Rattle.av_tree.specs.declared.system.Declaration.{Declaration}
use Rattle.av_tree.specs.Trees.{Text, Expression, Equation, System, restriction}
use Rattle.av_tree.specs.Points.{Sizes}
use Rattle.av_tree.specs.Domains.{variables}
use Rattle.av_tree.specs.Rows.{coefficient, constant, compared}
use Rattle.av_names.specs.Found.{first_of}
use Rattle.av_names.specs.Parts.{Part, parts, equation_parts, map_at}
use Rattle.av_names.specs.Written.{Written, all_written}

-- a quantity of an object at a place
pub record Counted : Type 0 where
  pub number : ℕ
  pub place : Place

abbrev counted : ℕ → Place → Counted
counted n place = record { number = n; place = place }

-- the number, where it is above the limit
abbrev pub above : ℕ → ℕ → Option ℕ
above limit n = if nat_lt limit n then Some n else None

abbrev pub exceeds : ℕ → Counted → Option Counted
exceeds limit c = if nat_lt limit c.number then Some c else None

-- the quantity of the first object in the text that is above the limit
abbrev pub first_above : ℕ → List Counted → Option ℕ
first_above limit cs = option_map (λ c. c.number) (first_of (λ c. c.place) (exceeds limit) cs)

-- ---- variables, indices, nodes

abbrev pub too_many_variables : System → Option ℕ
too_many_variables s = above 32 (length (variables s))

abbrev pub of_declaration : Declaration → Counted
of_declaration d = counted (length d.domain.names) d.domain.place

abbrev pub of_equation : Equation → Option Counted
of_equation e = option_map (λ names. counted (length names) e.place) e.indices

-- a map's names before its results
abbrev pub of_map : Option MapText → List Counted
of_map None = []
of_map (Some m) = counted (length m.names) m.place ∷ counted (length m.results) m.place ∷ []

abbrev pub of_expression : Expression → List Counted
of_expression (restriction d e place) = counted (length d.names) d.place ∷ []
of_expression e = of_map (map_at e)

abbrev pub of_part : Part → List Counted
of_part p = of_expression p.expression

-- names of a domain, but for the parameter domain, of a map or an equation; results of a map
abbrev pub index_lists : System → List Counted
index_lists s = map of_declaration (variables s) ++ filter_map of_equation s.equations ++ flat_map of_part (parts s)

abbrev pub too_many_indices : System → Option ℕ
too_many_indices s = first_above 4 (index_lists s)

-- the parts of its right side
abbrev pub nodes_of : System → Equation → Counted
nodes_of s e = counted (length (equation_parts s e)) e.place

abbrev pub too_many_nodes : System → Option ℕ
too_many_nodes s = first_above 4096 (map (nodes_of s) s.equations)

-- ---- coefficients and constants of rows and of results of maps, with the sizes put in and like terms added

abbrev pub greatest : List ℤ → ℕ
greatest [] = 0
greatest (x ∷ xs) = max (unsigned_abs x) (greatest xs)

-- of the rows of a comparison, at the place of its left side
abbrev pub row_coefficient : Sizes → List Text → Constraint → Counted
row_coefficient sizes names c = counted (greatest (flat_map (λ r. r.coefficients) (compared sizes names c.left c.relation c.right))) c.left.place

abbrev pub row_constant : Sizes → List Text → Constraint → Counted
row_constant sizes names c = counted (greatest (map (λ r. r.constant) (compared sizes names c.left c.relation c.right))) c.left.place

abbrev pub index_coefficient : List Text → IndexExpr → Counted
index_coefficient names e = counted (greatest (map (coefficient e.terms) names)) e.place

abbrev pub index_constant : Sizes → List Text → IndexExpr → Counted
index_constant sizes names e = counted (unsigned_abs (constant sizes names e.terms)) e.place

abbrev pub written_coefficients : Sizes → Written → List Counted
written_coefficients sizes w = map (index_coefficient w.names) w.indices ++ map (row_coefficient sizes w.names) w.constraints

abbrev pub written_constants : Sizes → Written → List Counted
written_constants sizes w = map (index_constant sizes w.names) w.indices ++ map (row_constant sizes w.names) w.constraints

abbrev pub great_coefficient : System → Sizes → Option ℕ
great_coefficient s sizes = first_above 1024 (flat_map (written_coefficients sizes) (all_written s))

abbrev pub great_constant : System → Sizes → Option ℕ
great_constant s sizes = first_above 1048576 (flat_map (written_constants sizes) (all_written s))
