-- Index expressions, maps and domains as affine forms: the sizes put in, like terms added, all in unbounded whole
-- numbers (Mauras 1989; Wilde's reports on Alpha).
use Rattle.std.specs.Prelude.{ℕ, ℤ, pos, List, [], ◌∷◌, map, length, nat_eq, slice_index_or, if◌then◌else◌}
use Rattle.std.specs.List.{flat_map, range_with_len}
use Rattle.av_affine.specs.declared.form.Form.{Form}
use Rattle.av_affine.specs.declared.map.Map.{Map}
use Rattle.av_affine.specs.Numbers.{four}
use Rattle.av_poly.specs.Points.{Set}
use Rattle.av_tree.specs.declared.domain.IndexExpr.{IndexExpr}
use Rattle.av_tree.specs.declared.domain.Constraint.{Constraint}
use Rattle.av_tree.specs.declared.domain.DomainText.{DomainText}
use Rattle.av_tree.specs.declared.domain.MapText.{MapText}
use Rattle.av_tree.specs.declared.expression.Access.{Access}
use Rattle.av_tree.specs.declared.expression.Access.TheVariants as access
use Rattle.av_tree.specs.Trees.{Text}
use Rattle.av_tree.specs.Points.{Sizes}
use Rattle.av_tree.specs.Rows.{Row, coefficient, constant, compared}

-- what an expression stands over: so many indices, with these names, or without names under a dependence
pub record Context : Type 0 where
  pub names : List Text
  pub indices : ℕ

-- the context of these names
abbrev pub over : List Text → Context
over names = record { names = names; indices = length names }

-- indices without names
abbrev pub nameless : ℕ → Context
nameless n = record { names = []; indices = n }

-- ---- forms

-- four entries: those of the list, and 0 past its end
abbrev pub filled : List ℤ → List ℤ
filled xs = four (λ index. slice_index_or xs index (pos 0))

-- the index expression over the indices of these names
abbrev pub form_of : Sizes → List Text → IndexExpr → Form
form_of sizes names e = record { coef = filled (map (coefficient e.terms) names); constant = constant sizes names e.terms }

abbrev pub form_of_row : Row → Form
form_of_row row = record { coef = filled row.coefficients; constant = row.constant }

-- the index at this place
abbrev pub index_form : ℕ → Form
index_form place = record { coef = four (λ index. if nat_eq index place then pos 1 else pos 0); constant = pos 0 }

-- ---- sets

-- the rows of the comparisons, in their order, over the indices of these names
abbrev pub rows_over : Sizes → List Text → List Constraint → List Form
rows_over sizes names constraints = map form_of_row (flat_map (λ c. compared sizes names c.left c.relation c.right) constraints)

-- a domain with index names of its own
abbrev pub set_of : Sizes → DomainText → Set
set_of sizes d = record { dim = length d.names; rows = rows_over sizes d.names d.constraints }

-- the names of a restriction's domain: its own, or else those of the context
abbrev pub names_or : List Text → List Text → List Text
names_or context [] = context
names_or context (n ∷ names) = n ∷ names

-- a restriction's domain
abbrev pub restriction_set : Sizes → Context → DomainText → Set
restriction_set sizes c d = record { dim = c.indices; rows = rows_over sizes (names_or c.names d.names) d.constraints }

-- all points of so many entries
abbrev pub whole : ℕ → Set
whole n = record { dim = n; rows = [] }

-- ---- maps

abbrev pub map_of : Sizes → MapText → Map
map_of sizes m = record { from = length m.names; rows = map (form_of sizes m.names) m.results }

-- each point is its own image
abbrev pub identity : ℕ → Map
identity n = record { from = n; rows = map index_form (range_with_len 0 n) }

-- the map by which a reference reads
abbrev pub read_of : Sizes → Context → Access → Map
read_of sizes c access.Here = identity c.indices
read_of sizes c (access.Indices es) = record { from = c.indices; rows = map (form_of sizes c.names) es }
read_of sizes c (access.Mapped m) = map_of sizes m
