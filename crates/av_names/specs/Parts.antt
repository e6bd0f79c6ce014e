-- The parts of a system's expressions, each with the context in which it stands.
use Rattle.std.specs.Prelude.{ℕ, Bool, true, false, List, [], ◌∷◌, ◌++◌, length, Option, Some, None}
use Rattle.std.specs.List.{flat_map}
use Rattle.av_tree.specs.declared.domain.MapText.{MapText}
use Rattle.av_tree.specs.declared.expression.Access.{Access}
use Rattle.av_tree.specs.declared.expression.Access.TheVariants as access
use Rattle.av_tree.specs.Trees.{Text, Expression, Expressions, Equation, System, reference, constant, binary, choice, restriction, cases, dependence, reduction, none, more}
use Rattle.av_tree.specs.Domains.{variables, context, declared_names}
use Rattle.av_names.specs.Forms.{Context, over, nameless}

-- an expression in its context
pub record Part : Type 0 where
  pub context : Context
  -- it stands in the body of a reduction
  pub reduced : Bool
  pub expression : Expression

abbrev part : Bool → Context → Expression → Part
part reduced c e = record { context = c; reduced = reduced; expression = e }

abbrev mutual
  -- an expression with all that stands in it, each as often as it is written
  pub parts_of : Bool → Context → Expression → List Part
  parts_of reduced c (reference name at place) = part reduced c (reference name at place) ∷ []
  parts_of reduced c (constant n at place) = part reduced c (constant n at place) ∷ []
  parts_of reduced c (binary s l r place) = part reduced c (binary s l r place) ∷ (parts_of reduced c l ++ parts_of reduced c r)
  parts_of reduced c (choice l compare r x y place) =
      part reduced c (choice l compare r x y place) ∷ (parts_of reduced c l ++ (parts_of reduced c r ++ (parts_of reduced c x ++ parts_of reduced c y)))
  parts_of reduced c (restriction d e place) = part reduced c (restriction d e place) ∷ parts_of reduced c e
  parts_of reduced c (cases es place) = part reduced c (cases es place) ∷ parts_of_all reduced c es
  parts_of reduced c (dependence m e place) = part reduced c (dependence m e place) ∷ parts_of reduced (nameless (length m.results)) e
  parts_of reduced c (reduction o m e place) = part reduced c (reduction o m e place) ∷ parts_of true (over m.names) e

  pub parts_of_all : Bool → Context → Expressions → List Part
  parts_of_all reduced c none = []
  parts_of_all reduced c (more e es) = parts_of reduced c e ++ parts_of_all reduced c es

-- the parts of an equation's right side
abbrev pub equation_parts : System → Equation → List Part
equation_parts s e = parts_of false (over (context s e)) e.right

abbrev pub parts : System → List Part
parts s = flat_map (equation_parts s) s.equations

-- the number of indices of a variable
abbrev pub arity_of : System → Text → ℕ
arity_of s name = length (declared_names (variables s) name)

abbrev map_behind : Access → Option MapText
map_behind (access.Mapped m) = Some m
map_behind _ = None

-- the map that is written at a reference, a constant, a dependence or a reduction
abbrev pub map_at : Expression → Option MapText
map_at (reference name at place) = map_behind at
map_at (constant n at place) = map_behind at
map_at (dependence m e place) = Some m
map_at (reduction o m e place) = Some m
map_at _ = None
