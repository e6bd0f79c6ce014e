-- The tree of a system as definitions see it: expressions without where they lie in memory (Mauras 1989;
-- Wilde's reports on Alpha). Domains, maps and declarations hold no pointer and stand here as they are.
use Rattle.std.specs.Prelude.{ℕ, List, [], ◌∷◌, Option}
use Rattle.av_base.specs.declared.place.Place.{Place}
use Rattle.av_base.specs.declared.word.Op.{Op}
use Rattle.av_tree.specs.declared.domain.DomainText.{DomainText}
use Rattle.av_tree.specs.declared.domain.MapText.{MapText}
use Rattle.av_tree.specs.declared.expression.Access.{Access}
use Rattle.av_tree.specs.declared.expression.Expr.{Expr, Row_of-Expr, end_of-Expr, more_of-Expr}
use Rattle.av_tree.specs.declared.expression.Expr.TheVariants as expr
use Rattle.av_tree.specs.declared.relation.Relation.{Relation}
use Rattle.av_tree.specs.declared.sign.Sign.{Sign}
use Rattle.av_tree.specs.declared.system.Declaration.{Declaration}
use Rattle.av_tree.specs.declared.system.Equation.{Equation as EquationMade}
use Rattle.av_tree.specs.declared.system.System.{System as SystemMade}

-- a name is its bytes
abbrev pub Text : Type 0
Text = List ℕ

mutual
  -- the right side of an equation, or a part of it, with its place
  pub data Expression : Type 0 where
    reference : Text → Access → Place → Expression
    constant : ℕ → Access → Place → Expression
    binary : Sign → Expression → Expression → Place → Expression
    choice : Expression → Relation → Expression → Expression → Expression → Place → Expression
    restriction : DomainText → Expression → Place → Expression
    cases : Expressions → Place → Expression
    dependence : MapText → Expression → Place → Expression
    reduction : Op → MapText → Expression → Place → Expression

  pub data Expressions : Type 0 where
    none : Expressions
    more : Expression → Expressions → Expressions

-- what a variable is at the point with these indices, or at the indices of its declaration
pub record Equation : Type 0 where
  pub name : Text
  pub indices : Option (List Text)
  pub right : Expression
  pub place : Place

pub record System : Type 0 where
  pub name : Text
  pub sizes : DomainText
  pub inputs : List Declaration
  pub outputs : List Declaration
  pub locals : List Declaration
  pub equations : List Equation

-- ---- what the program's own tree says

abbrev mutual
  pub view : Expr → Expression
  view (expr.Ref name at place) = reference name at place
  view (expr.Const value at place) = constant value at place
  view (expr.Binary' sign p left q right place) = binary sign (view left) (view right) place
  view (expr.Choose' p left compare q right r yes_part s no_part place) = choice (view left) compare (view right) (view yes_part) (view no_part) place
  view (expr.Restrict' domain p body place) = restriction domain (view body) place
  view (expr.Case' shape branches place) = cases (view_row branches) place
  view (expr.Depend' map p body place) = dependence map (view body) place
  view (expr.Reduce' op map p body place) = reduction op map (view body) place

  pub view_row : {m : _} → Row_of-Expr m → Expressions
  view_row end_of-Expr = none
  view_row (more_of-Expr e rest) = more (view e) (view_row rest)

abbrev pub view_all : List Expr → Expressions
view_all [] = none
view_all (e ∷ es) = more (view e) (view_all es)

abbrev pub view_equation : EquationMade → Equation
view_equation e = record { name = e.name; indices = e.indices; right = view e.right; place = e.place }

abbrev pub view_equations : List EquationMade → List Equation
view_equations [] = []
view_equations (e ∷ es) = view_equation e ∷ view_equations es

abbrev pub view_system : SystemMade → System
view_system s = record {
  name = s.name;
  sizes = s.sizes;
  inputs = s.inputs;
  outputs = s.outputs;
  locals = s.locals;
  equations = view_equations s.equations;
}
