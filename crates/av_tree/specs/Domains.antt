-- Which points a domain has: those at which each of its constraints holds as it is written (Wilde's
-- reports on Alpha).
use Rattle.std.specs.Prelude.{ℤ, Bool, true, false, not, ◌&&◌, ◌||◌, int_lt, int_le, List, [], ◌∷◌, ◌++◌, Option, Some, None, IsTrue, bytes_eq}
use Rattle.av_tree.specs.declared.domain.Constraint.{Constraint}
use Rattle.av_tree.specs.declared.domain.DomainText.{DomainText}
use Rattle.av_tree.specs.declared.relation.Relation.{Relation}
use Rattle.av_tree.specs.declared.relation.Relation.TheVariants as relation
use Rattle.av_tree.specs.declared.system.Declaration.{Declaration}
use Rattle.av_tree.specs.Trees.{Text, System, Equation}
use Rattle.av_tree.specs.Points.{Point, Reach, Sizes, index_at, in_reach, have_length}

abbrev pub compares : Relation → ℤ → ℤ → Bool
compares relation.Less j k = int_lt j k
compares relation.LessEqual j k = int_le j k
compares relation.Greater j k = int_lt k j
compares relation.GreaterEqual j k = int_le k j
compares relation.Equal j k = int_le j k && int_le k j
compares relation.Unequal j k = not (int_le j k && int_le k j)

-- both sides have a number, and these compare so
abbrev pub both_compare : Relation → Option ℤ → Option ℤ → Bool
both_compare r None k = false
both_compare r (Some j) None = false
both_compare r (Some j) (Some k) = compares r j k

-- each constraint holds
abbrev pub all_hold : Reach → List Constraint → Bool
all_hold reach [] = true
all_hold reach (c ∷ constraints) = both_compare c.relation (index_at reach c.left) (index_at reach c.right) && all_hold reach constraints

-- z is a point of a domain with index names of its own
abbrev pub is_point : Sizes → DomainText → Point → Bool
is_point sizes d z = have_length d.names z && all_hold (in_reach sizes d.names z) d.constraints

-- z is a point of a restriction's domain: without names of its own it takes those of the context, of which
-- there may be none, however many indices the context has
abbrev pub is_within : Sizes → List Text → DomainText → Point → Bool
is_within sizes context d z = elim d.names [
  | [] ↦ all_hold (in_reach sizes context z) d.constraints
  | n ∷ names ↦ is_point sizes d z
]

-- z is a declared point of the variable
abbrev pub is_declared : Sizes → List Declaration → Text → Point → Bool
is_declared sizes [] variable z = false
is_declared sizes (d ∷ declarations) variable z = (bytes_eq d.name variable && is_point sizes d.domain z) || is_declared sizes declarations variable z

abbrev pub IsDeclared : Sizes → List Declaration → Text → Point → Type 0
IsDeclared sizes declarations variable z = IsTrue (is_declared sizes declarations variable z)

-- ---- the variables of a system

-- those that have an equation
abbrev pub computed : System → List Declaration
computed s = s.outputs ++ s.locals

abbrev pub variables : System → List Declaration
variables s = s.inputs ++ computed s

-- the index names of a variable's declaration
abbrev pub declared_names : List Declaration → Text → List Text
declared_names [] variable = []
declared_names (d ∷ declarations) variable = elim (bytes_eq d.name variable) [ true ↦ d.domain.names | false ↦ declared_names declarations variable ]

abbrev pub given_or : List Text → Option (List Text) → List Text
given_or names None = names
given_or names (Some given) = given

-- the index names over which an equation's right side stands: its own, or those of its variable's declaration
abbrev pub context : System → Equation → List Text
context s e = given_or (declared_names (variables s) e.name) e.indices
